-- The scan for a position: what is passed so far and what is still to be passed make up the offset, and a record that is found lies in the bytes.
-- Assumes nothing.
use Rattle.std.proofs.Common.{◌≡◌, refl, sym, ap, ◌∙◌, List, [], ◌∷◌, ℕ, zero, suc, ◌+◌, ◌-◌, ◌≤◌, ◌<◌, sub-one, arith, length, drop, get_or, length-drop, drop-drop, get_or-drop}
use borrow.Author.Tests.{lt-ltb, le-ltb}
use Rattle.image.specs.declared.RecordKind.{RecordKind}
use Rattle.image.specs.Find.{kind_of_low, front_kind, front_place, front_size, KEYED, passed_by, offset}
use Rattle.image.specs.Order.{position_of}
use Rattle.image.specs.Records.{HEAD, length_of}
use Rattle.image.proofs.Sizes.{payload_small}

-- ---- one record of the definition

module _ (n : ℕ) (l : List ℕ) where
  -- too few bytes
  pub none_left : (i : ℕ) → length l < KEYED → passed_by i n l ≡ 0
  unfolding passed_by
  none_left zero lt = refl
  none_left (suc i) lt = rw (lt-ltb (length l) KEYED lt)

  module _ (keyed : KEYED ≤ length l) where
    -- the position is reached
    reached : (i : ℕ) → n ≤ front_place l → passed_by i n l ≡ 0
    unfolding passed_by
    reached zero le = refl
    reached (suc i) le = rw (le-ltb (length l) KEYED keyed, le-ltb (front_place l) n le)

    -- or the record is passed
    passed : (i : ℕ) → length l ≤ i → front_place l < n → passed_by i n l ≡ front_size l + passed_by (i - 1) n (drop (front_size l) l)
    unfolding passed_by
    passed zero enough lt = absurd (omega arith)
    passed (suc i) enough lt = rw (le-ltb (length l) KEYED keyed, lt-ltb (front_place l) n lt, sub-one)

-- ---- the loop

-- at `at` the scan from `from` for position n still gives the whole answer
pub record Scan (s : List ℕ) (from n at : ℕ) : Type 0 where
  pub within : at ≤ length s + 14
  pub fuel : ℕ
  pub enough : length s - at ≤ fuel
  pub same : from + offset n (drop from s) ≡ at + passed_by fuel n (drop at s)

pub at_first : (s : List ℕ) (from n : ℕ) → from ≤ length s → Scan s from n from
at_first s from n le =
    record { within = omega arith; fuel = length (drop from s); enough = rw (length-drop from s) (omega arith); same = refl }

-- past the end there is nothing to pass
pub past : (s : List ℕ) (from n : ℕ) → length s < from → from ≡ from + offset n (drop from s)
past s from n lt =
    let none = none_left n (drop from s) (length (drop from s)) (rw (length-drop from s) (omega arith)) in
    omega (arith, none)

module _ {s : List ℕ} {from n at : ℕ} (r : Scan s from n at) where
  -- fewer bytes are left than a record has
  pub ended : length s < at + KEYED → at ≡ from + offset n (drop from s)
  ended lt =
      let none = none_left n (drop at s) r.fuel (rw (length-drop at s) (omega arith)) in
      omega (arith, none, r.same)

  -- the record here, as the code reads it
  module _ (keyed : at + KEYED ≤ length s) (k : RecordKind) (kind : k ≡ kind_of_low (get_or s (at + 2) 0)) (p : ℕ)
      (place : p ≡ position_of k (get_or s (at + 4) 0 ∷ get_or s (at + 5) 0 ∷ [])) where
    long : KEYED ≤ length (drop at s)
    long = rw (length-drop at s) (omega arith)

    kind_is : front_kind (drop at s) ≡ k
    kind_is = ap kind_of_low (get_or-drop at s 2 0) ∙ sym kind

    place_is : front_place (drop at s) ≡ p
    place_is = rw (kind_is, get_or-drop at s 4 0, get_or-drop at s 5 0) (sym place)

    pub stopped : n ≤ p → at ≡ from + offset n (drop from s)
    stopped le =
        let none = reached n (drop at s) long r.fuel (rw place_is le) in
        omega (arith, none, r.same)

    pub onward : p < n → Scan s from n (at + (HEAD + length_of k))
    onward lt =
        let size : front_size (drop at s) ≡ HEAD + length_of k = ap (λ (x : RecordKind). HEAD + length_of x) kind_is in
        let on = passed n (drop at s) long r.fuel (rw (length-drop at s) r.enough) (rw place_is lt) in
        let far : passed_by r.fuel n (drop at s) ≡ HEAD + length_of k + passed_by (r.fuel - 1) n (drop (at + (HEAD + length_of k)) s) =
        on ∙ rw (size, drop-drop (HEAD + length_of k) at s) in
        record {
          within = omega (arith, payload_small k);
          fuel = r.fuel - 1;
          enough = omega (arith, r.enough);
          same = omega (arith, far, r.same);
        }
