-- Changes of records picked by a test, one at most for each number of a row: in order, standing, outside of them, and as changes of bytes.
-- Assumes nothing.
use Rattle.std.specs.Prelude.{◌≡◌, Bool, if◌then◌else◌}
use Rattle.std.proofs.Math.Path.{refl}
use Rattle.std.proofs.Math.Bool.{true, false}
use Rattle.std.proofs.lemmas.Bool.{false≢true}
use mathlib.Core.List.{List, [], ◌∷◌, ◌++◌}
use Prim.Native.Nat.{ℕ, zero, suc, ◌+◌, ◌≤◌, ◌<◌}
use Rattle.std.proofs.Math.Decide.{ℕ_discrete}
use Rattle.std.proofs.Common.{arith}
use Rattle.terms.specs.Counted.{list_from, gather_from}
use Rattle.table.specs.declared.Table.{Table}
use Rattle.image.specs.Spots.{Spot, spot_position, record_at}
use Rattle.splice.specs.Patched.{Change, place_in, Ascends, Outside, Stands}
use Rattle.splice.specs.Spread.{Within}
use Rattle.plan.specs.Change as bytes
use Rattle.plan.specs.Change.{Same}
use Rattle.plan.specs.Planned.{Matches, same}

-- the change of a number that passes, none of another
abbrev pub pick : (ℕ → Bool) → (ℕ → Change) → ℕ → List Change
pick test f i = if test i then f i ∷ [] else []

-- the same of bytes
abbrev pub or_same : (ℕ → Bool) → (ℕ → bytes.Change) → ℕ → bytes.Change
or_same test f i = if test i then f i else Same

-- what ascends from a position on ascends from an earlier one on
ascends_lower : (m n : ℕ) → m ≤ n → (cs : List Change) → Ascends n cs → Ascends m cs
ascends_lower m n le [] up = tt
ascends_lower m n le (c ∷ cs) up = (omega (arith, up.0), up.1)

module _ (test : ℕ → Bool) (f : ℕ → Change) (rest : List Change) where
  -- number i stands at position first + i, and the rest behind them all
  pub picks_ascend : (first m k n : ℕ) → m ≤ first + k
      → ((i : ℕ) → i < k + n → test i ≡ true → (place_in (f i) ≡ first + i) × Within (f i).spot)
      → Ascends (first + (k + n)) rest → Ascends m (gather_from k n (pick test f) ++ rest)
  unfolding gather_from
  picks_ascend first m k zero low at up = ascends_lower m (first + (k + 0)) (omega arith) rest up
  picks_ascend first m k (suc n) low at up =
      let after = ascends_lower (first + (suc k + n)) (first + (k + suc n)) (omega arith) rest up in
      go (test k) refl (λ m' le. picks_ascend first m' (suc k) n le (λ i lt. at i (omega arith)) after)
    where
      go : (b : Bool) → test k ≡ b → ((m' : ℕ) → m' ≤ first + suc k → Ascends m' (gather_from (suc k) n (pick test f) ++ rest))
          → Ascends m ((if b then f k ∷ [] else []) ++ gather_from (suc k) n (pick test f) ++ rest)
      go true e more =
          let here = at k (omega arith) e in (omega (arith, here.0), (here.1, more (suc (place_in (f k))) (omega (arith, here.0))))
      go false e more = more m (omega arith)

  -- the table has what each says
  pub picks_stand : (u : Table) (k n : ℕ) → ((i : ℕ) → i < k + n → test i ≡ true → record_at u (f i).spot ≡ (f i).records)
      → Stands u rest → Stands u (gather_from k n (pick test f) ++ rest)
  unfolding gather_from
  picks_stand u k zero is stands = stands
  picks_stand u k (suc n) is stands = go (test k) refl (picks_stand u (suc k) n (λ i lt. is i (omega arith)) stands)
    where
      go : (b : Bool) → test k ≡ b → Stands u (gather_from (suc k) n (pick test f) ++ rest)
          → Stands u ((if b then f k ∷ [] else []) ++ gather_from (suc k) n (pick test f) ++ rest)
      go true e more = (is k (omega arith) e, more)
      go false e more = more

  -- a spot outside of all stands at the position of none
  pub picks_outside : (x : Spot) (k n : ℕ) → Outside (gather_from k n (pick test f) ++ rest) x
      → ((i : ℕ) → k ≤ i → i < k + n → test i ≡ true → spot_position x ≡ place_in (f i) → ⊥) × Outside rest x
  unfolding gather_from
  picks_outside x k zero = λ out. (λ i low high e. absurd (omega arith), out)
  picks_outside x k (suc n) = go (test k) refl (picks_outside x (suc k) n)
    where
      Others : Type 0
      Others = (i : ℕ) → suc k ≤ i → i < suc k + n → test i ≡ true → spot_position x ≡ place_in (f i) → ⊥

      go : (b : Bool) → test k ≡ b → (Outside (gather_from (suc k) n (pick test f) ++ rest) x → Others × Outside rest x)
          → Outside ((if b then f k ∷ [] else []) ++ gather_from (suc k) n (pick test f) ++ rest) x
          → ((i : ℕ) → k ≤ i → i < k + suc n → test i ≡ true → spot_position x ≡ place_in (f i) → ⊥) × Outside rest x
      go true e more out = (
        λ i low high. elim (ℕ_discrete i k) [
          | yes q ↦ rw q (λ passes. out.0)
          | no ne ↦ (more out.1).0 i (omega arith) (omega arith)
        ],
        (more out.1).1,
      )
      go false e more out = (
        λ i low high. elim (ℕ_discrete i k) [
          | yes q ↦ rw (q, e) (λ passes. absurd (false≢true passes))
          | no ne ↦ (more out).0 i (omega arith) (omega arith)
        ],
        (more out).1,
      )

-- as changes of bytes, each of which is one of records
pub picks_match : (l : List ℕ) (test : ℕ → Bool) (g : ℕ → bytes.Change) (f : ℕ → Change) (cs : List bytes.Change) (ps : List Change) (k n : ℕ)
    → ((i : ℕ) → i < k + n → (cs : List bytes.Change) (ps : List Change) → Matches l cs ps → Matches l (g i ∷ cs) (f i ∷ ps))
    → Matches l cs ps → Matches l (list_from k n (or_same test g) ++ cs) (gather_from k n (pick test f) ++ ps)
unfolding list_from gather_from
picks_match l test g f cs ps k zero each rest = rest
picks_match l test g f cs ps k (suc n) each rest = go (test k) (picks_match l test g f cs ps (suc k) n (λ i lt. each i (omega arith)) rest)
  where
    go : (b : Bool) → Matches l (list_from (suc k) n (or_same test g) ++ cs) (gather_from (suc k) n (pick test f) ++ ps)
        → Matches l ((if b then g k else Same) ∷ list_from (suc k) n (or_same test g) ++ cs)
        ((if b then f k ∷ [] else []) ++ gather_from (suc k) n (pick test f) ++ ps)
    go true more = each k (omega arith) (list_from (suc k) n (or_same test g) ++ cs) (gather_from (suc k) n (pick test f) ++ ps) more
    go false more = same more
