-- Records with something else at some positions: where two tables differ at a few spots, the records of one are those of the other with
-- these replaced. Assumes nothing.
use Rattle.std.specs.Prelude.{◌≡◌, leb}
use Rattle.std.proofs.Math.Path.{refl, sym, ap}
use Rattle.std.proofs.Common.{◌∙◌, arith}
use Rattle.std.proofs.Math.Bool.{true}
use mathlib.Core.List.{List, [], ◌∷◌, ◌++◌}
use Prim.Native.Nat.{ℕ, suc, ◌≤◌, ◌<◌}
use Rattle.std.proofs.Math.Decide.{dec_lt}
use borrow.Author.Tests.{leb-true, le-leb}
use Rattle.terms.proofs.ChooseLaws.{and_passes}
use Rattle.table.specs.declared.Table.{Table}
use Rattle.image.specs.Records.{Record}
use Rattle.image.specs.Spots.{Spot, spot_position, record_at}
use Rattle.image.specs.Writer.{records_of}
use Rattle.splice.specs.Parts.{before, from, found}
use Rattle.splice.proofs.Parts.{from_zero, from-from, three_parts}
use Rattle.splice.proofs.Parts.{Places, places_as, before_passed, from_passed, before_none, from_all}
use Rattle.splice.specs.Spread.{spots}
use Rattle.splice.proofs.Spread.{ending, joined, rising, spots_rise, joined_high, records_joined, placed, found_at}
use Rattle.splice.specs.Patched.{Change, place_in, Ascends, Outside, Stands, Differs}

-- the records with the changes made, which come in the order of their positions
unfoldable pub patched : List Change → List Record → List Record
patched [] rs = rs
patched (c ∷ cs) rs = before (place_in c) rs ++ (c.records ++ patched cs (from (suc (place_in c)) rs))

-- ---- two ways to fill the spots

module _ (f g : Spot → List Record) where
  -- that agree from position n on
  joined_same : (n : ℕ) (l : List Spot) → rising n l ≡ true → ((x : Spot) → n ≤ spot_position x → g x ≡ f x) → joined g l ending ≡ joined f l ending
  unfolding rising joined
  joined_same n [] up same = refl
  joined_same n (s ∷ l) up same =
      let p = (and_passes (leb n (spot_position s)) (rising (suc (spot_position s)) l)).0 up in
      let low : n ≤ spot_position s = leb-true n (spot_position s) p.0 in
      rw (same s low, joined_same (suc (spot_position s)) l p.1 (λ x le. same x (omega arith)))

-- each spot holds only records at its position
abbrev Placed : (Spot → List Record) → Type 0
Placed f = (s : Spot) → Places (λ q. q ≡ spot_position s) (f s)

-- a spot before position n holds only records before it
placed_low : (f : Spot → List Record) → Placed f → (s : Spot) (n : ℕ) → spot_position s < n → Places (λ q. q < n) (f s)
placed_low f at s n lt = places_as (λ q. q ≡ spot_position s) (λ q. q < n) (λ q e. omega arith) (f s) (at s)

module _ (f g : Spot → List Record) (at : Placed f) (at' : Placed g) where
  -- that agree from position n on, the spots before it left out
  joined-from : (k n : ℕ) (l : List Spot) → rising k l ≡ true → ((x : Spot) → n ≤ spot_position x → g x ≡ f x)
      → from n (joined g l ending) ≡ from n (joined f l ending)
  unfolding rising joined
  joined-from k n [] up same = refl
  joined-from k n (s ∷ l) up same =
      let rest = ((and_passes (leb k (spot_position s)) (rising (suc (spot_position s)) l)).0 up).1 in
      elim (dec_lt (spot_position s) n) [
        | yes lt ↦
            from_passed n (g s) (joined g l ending) (placed_low g at' s n lt)
            ∙ joined-from (suc (spot_position s)) n l rest same
            ∙ sym (from_passed n (f s) (joined f l ending) (placed_low f at s n lt))
        | no ge ↦ rw (same s (omega arith), joined_same f g (suc (spot_position s)) l rest (λ x le. same x (omega arith)))
      ]

  -- that agree before position n
  joined-before : (k n : ℕ) (l : List Spot) → rising k l ≡ true → ((x : Spot) → k ≤ spot_position x → spot_position x < n → g x ≡ f x)
      → before n (joined g l ending) ≡ before n (joined f l ending)
  unfolding rising joined
  joined-before k n [] up same = refl
  joined-before k n (s ∷ l) up same =
      let p = (and_passes (leb k (spot_position s)) (rising (suc (spot_position s)) l)).0 up in
      let low : k ≤ spot_position s = leb-true k (spot_position s) p.0 in
      elim (dec_lt (spot_position s) n) [
        | yes lt ↦
            before_passed n (g s) (joined g l ending) (placed_low g at' s n lt)
            ∙ rw (same s low lt, joined-before (suc (spot_position s)) n l p.1 (λ x le lt'. same x (omega arith) lt'))
            (sym (before_passed n (f s) (joined f l ending) (placed_low f at s n lt)))
        | no ge ↦
            let here : rising n (s ∷ l) ≡ true = rw (le-leb n (spot_position s) (omega arith)) p.1 in
            before_none n (joined g (s ∷ l) ending) (joined_high g at' n (s ∷ l) here)
            ∙ sym (before_none n (joined f (s ∷ l) ending) (joined_high f at n (s ∷ l) here))
      ]

  -- that agree from position m on and before position n
  joined_between : (k m n : ℕ) (l : List Spot) → rising k l ≡ true → ((x : Spot) → m ≤ spot_position x → spot_position x < n → g x ≡ f x)
      → before n (from m (joined g l ending)) ≡ before n (from m (joined f l ending))
  unfolding rising joined
  joined_between k m n [] up same = refl
  joined_between k m n (s ∷ l) up same =
      let p = (and_passes (leb k (spot_position s)) (rising (suc (spot_position s)) l)).0 up in
      elim (dec_lt (spot_position s) m) [
        | yes lt ↦
            ap (before n) (from_passed m (g s) (joined g l ending) (placed_low g at' s m lt))
            ∙ joined_between (suc (spot_position s)) m n l p.1 same
            ∙ sym (ap (before n) (from_passed m (f s) (joined f l ending) (placed_low f at s m lt)))
        | no ge ↦
            let here : rising m (s ∷ l) ≡ true = rw (le-leb m (spot_position s) (omega arith)) p.1 in
            ap (before n) (from_all m (joined g (s ∷ l) ending) (joined_high g at' m (s ∷ l) here))
            ∙ joined-before m n (s ∷ l) here same
            ∙ sym (ap (before n) (from_all m (joined f (s ∷ l) ending) (joined_high f at m (s ∷ l) here)))
      ]

-- ---- two tables

module _ (t u : Table) where
  -- the tables agree from position m on and before position n
  between : (m n : ℕ) → ((x : Spot) → m ≤ spot_position x → spot_position x < n → record_at u x ≡ record_at t x)
      → before n (from m (records_of u)) ≡ before n (from m (records_of t))
  between m n same =
      rw (records_joined t, records_joined u) (joined_between (record_at t) (record_at u) (placed t) (placed u) 0 m n spots spots_rise same)

  -- the tables agree from position m on
  onward : (m : ℕ) → ((x : Spot) → m ≤ spot_position x → record_at u x ≡ record_at t x) → from m (records_of u) ≡ from m (records_of t)
  onward m same = rw (records_joined t, records_joined u) (joined-from (record_at t) (record_at u) (placed t) (placed u) 0 m spots spots_rise same)

-- a spot before position m is none of those from it on
outside_low : (x : Spot) (m : ℕ) (cs : List Change) → Ascends m cs → spot_position x < m → Outside cs x
outside_low x m [] up lt = tt
outside_low x m (c ∷ cs) up lt = (λ e. absurd (omega (arith, up.0)), outside_low x (suc (place_in c)) cs up.1.1 (omega (arith, up.0)))

module _ (t u : Table) where
  patched-from : (m : ℕ) (cs : List Change) → Ascends m cs → Stands u cs
      → ((x : Spot) → m ≤ spot_position x → Outside cs x → record_at u x ≡ record_at t x) → from m (records_of u) ≡ patched cs (from m (records_of t))
  unfolding patched
  patched-from m [] up is same = onward t u m (λ x le. same x le tt)
  patched-from m (c ∷ cs) up is same =
      let n : ℕ = place_in c in
      let front = between t u m n (λ x le lt. same x le (λ e. absurd (omega arith), outside_low x (suc n) cs up.1.1 (omega arith))) in
      let here = ap (before (suc n)) (from-from m n up.0 (records_of u)) ∙ found_at u c.spot up.1.0 ∙ is.0 in
      let rest = from-from m (suc n) (omega (arith, up.0)) (records_of u)
      ∙ patched-from (suc n) cs up.1.1 is.1 (λ x le out. same x (omega (arith, up.0)) (λ e. absurd (omega arith), out))
      ∙ sym (ap (patched cs) (from-from m (suc n) (omega (arith, up.0)) (records_of t))) in
      sym (three_parts n (from m (records_of u)))
      ∙ ap (λ (rs : List Record). rs ++ (found n (from m (records_of u)) ++ from (suc n) (from m (records_of u)))) front
      ∙ ap (λ (rs : List Record). before n (from m (records_of t)) ++ (rs ++ from (suc n) (from m (records_of u)))) here
      ∙ ap (λ (rs : List Record). before n (from m (records_of t)) ++ (c.records ++ rs)) rest

-- so its records are t's with the changes made
pub differs_records : {cs : List Change} {t u : Table} → Differs cs t u → records_of u ≡ patched cs (records_of t)
differs_records {cs} {t} {u} d =
    sym (from_zero (records_of u))
    ∙ patched-from t u 0 cs d.ascends d.stands (λ x le out. d.same x out)
    ∙ ap (patched cs) (from_zero (records_of t))
