-- What a scan over the bytes of an image finds at a position: the record that the table has there, or none. Assumes nothing.
use Rattle.std.specs.Prelude.{◌≡◌, refl, Bool, true, false, ltb, eqb, if◌then◌else◌}
use Rattle.std.proofs.Common.{sym, ◌∙◌, arith, ltb-false, lt-ltb, le-ltb, eqb-true}
use Rattle.std.proofs.Math.Path.{ap}
use mathlib.Core.List.{List, [], ◌∷◌}
use Prim.Native.Nat.{ℕ, suc, ◌+◌, ◌≤◌}
use Rattle.std.proofs.Math.ListN.{length}
use Rattle.std.proofs.lemmas.Bool.{eqb-false}
use Rattle.table.specs.declared.Table.{Table}
use Rattle.table.specs.Formed.{Formed}
use Rattle.table.specs.Shape.{fits_table}
use Rattle.image.specs.Find.{offset, front_at, seen}
use Rattle.image.specs.Front.{frame_of}
use Rattle.image.proofs.ReadLaws.{front-payload}
use Rattle.image.specs.Records.{Record}
use Rattle.image.specs.Spots.{Spot, spot_position}
use Rattle.image.specs.Writer.{records_of, bytes_of_all, image}
use Rattle.splice.proofs.Bytes.{Fits, from_fit, drop-offset, offset_onward, spot_small}
use Rattle.splice.proofs.Fronts.{front_whole}
use Rattle.splice.proofs.Image.{records_fit}
use Rattle.splice.specs.Parts.{place_of, before, from, found}
use Rattle.splice.specs.Spread.{Within}
use Rattle.splice.proofs.Spread.{at_most_one, found_at}

-- ---- records

-- from a position on the first record stands there or later
pub first_from : (n : ℕ) (rs : List Record) (r : Record) (more : List Record) → from n rs ≡ r ∷ more → n ≤ place_of r
unfolding from
first_from n [] r more = λ e. let z : ◌≡◌ {A = ℕ} 0 1 = cc in absurd (omega arith)
first_from n (x ∷ rs) r more = go (ltb (place_of x) n) refl (first_from n rs r more)
  where
    go : (b : Bool) → ltb (place_of x) n ≡ b → (from n rs ≡ r ∷ more → n ≤ place_of r) → (if b then from n rs else x ∷ rs) ≡ r ∷ more → n ≤ place_of r
    go true is rest e = rest e
    go false is rest e = let same : x ≡ r = cc in omega (arith, ltb-false (place_of x) n is, ap place_of same)

-- where at most one record stands at position n, the front of those from there on tells which
front_found : (n : ℕ) (rs : List Record) → Fits rs → ((r : Record) (more : List Record) → rs ≡ r ∷ more → n ≤ place_of r)
    → length (before (suc n) rs) ≤ 1 → front_at n (bytes_of_all rs) ≡ before (suc n) rs
unfolding bytes_of_all before frame_of
front_found n [] fit high one = refl
front_found n (r ∷ rs) fit high one =
    rw (front_whole r.kind r.numbers (bytes_of_all rs) fit.0 fit.1.0)
    (rw (front-payload r.kind r.numbers (bytes_of_all rs) fit.1.0) (go (eqb (place_of r) n) refl))
  where
    none : (l : List Record) → length l ≤ 0 → l ≡ []
    none [] le = refl
    none (x ∷ l) le = absurd (omega arith)

    go : (b : Bool) → eqb (place_of r) n ≡ b → (if b then r ∷ [] else []) ≡ (if ltb (place_of r) (suc n) then r ∷ before (suc n) rs else [])
    go true e =
        let here : ltb (place_of r) (suc n) ≡ true = lt-ltb (place_of r) (suc n) (omega (arith, eqb-true (place_of r) n e)) in
        let alone : length (r ∷ before (suc n) rs) ≤ 1 = rw here at one in
        rw (here, none (before (suc n) rs) (omega arith))
    go false e = rw (le-ltb (place_of r) (suc n) (omega (arith, high r rs refl, eqb-false (place_of r) n e)))

-- ---- images

-- the scan finds what stands among the records
pub seen-found : (t : Table) → Formed t → fits_table t ≡ true → (s : Spot) → Within s
    → seen (spot_position s) (image t) ≡ found (spot_position s) (records_of t)
unfolding image
seen-found t formed fits s in' =
    let n : ℕ = spot_position s in
    let small = spot_small s in' in
    let fit = records_fit t formed fits in
    let one : length (found n (records_of t)) ≤ 1 = rw (found_at t s in') (at_most_one t s) in
    ap (front_at n) (drop-offset n (omega arith) (records_of t) fit)
    ∙ front_found n (from n (records_of t)) (from_fit n (records_of t) fit) (first_from n (records_of t)) one

module _ (t : Table) (formed : Formed t) (fits : fits_table t ≡ true) where
  -- past what stands at a position the next one begins
  pub offset_after : (s : Spot) → Within s
      → offset (suc (spot_position s)) (image t) ≡ offset (spot_position s) (image t) + length (bytes_of_all (seen (spot_position s) (image t)))
  unfolding image
  offset_after s in' =
      let n : ℕ = spot_position s in
      let small = spot_small s in' in
      offset_onward n (omega arith) (records_of t) (records_fit t formed fits) (suc n) (omega arith) (omega arith)
      ∙ ap (λ (rs : List Record). offset n (bytes_of_all (records_of t)) + length (bytes_of_all rs)) (sym (seen-found t formed fits s in'))
