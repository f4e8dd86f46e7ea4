-- The scan as a loop makes it, record by record, over any bytes; one to a later position goes on where one to an earlier position stops.
-- Assumes nothing.
use Rattle.std.specs.Prelude.{◌≡◌, Bool, List, [], ◌∷◌, ltb, length, drop, if◌then◌else◌}
use Rattle.std.proofs.Math.Path.{refl, ap}
use Rattle.std.proofs.Common.{sym, ◌∙◌, arith, drop-drop, ltb-true, lt-ltb}
use Rattle.std.proofs.Math.Bool.{true, false}
use Prim.Native.Nat.{ℕ, zero, suc, ◌+◌, ◌≤◌}
use Rattle.std.proofs.Math.ListN.{length-drop}
use Rattle.image.specs.Find.{front_place, front_size, KEYED, passed_by, offset}

no_bytes : (l : List ℕ) → length l ≤ 0 → l ≡ []
no_bytes [] le = refl
no_bytes (x ∷ l) le = absurd (omega arith)

module _ (n : ℕ) where
  -- without bytes nothing is passed
  passed_none : (i : ℕ) → passed_by i n [] ≡ 0
  unfolding passed_by
  passed_none zero = refl
  passed_none (suc i) = refl

  -- it doesn't matter how many records may be looked at, where they are no fewer than the bytes
  passed_same : (i j : ℕ) (l : List ℕ) → length l ≤ i → length l ≤ j → passed_by i n l ≡ passed_by j n l
  unfolding passed_by
  passed_same zero j l li lj = rw (no_bytes l li) (sym (passed_none j))
  passed_same (suc i) zero l li lj = rw (no_bytes l lj) (passed_none (suc i))
  passed_same (suc i) (suc j) l li lj =
      go (ltb (length l) KEYED) (ltb (front_place l) n)
      (passed_same i j (drop (front_size l) l) (omega (arith, length-drop (front_size l) l)) (omega (arith, length-drop (front_size l) l)))
    where
      go : (short b : Bool) → passed_by i n (drop (front_size l) l) ≡ passed_by j n (drop (front_size l) l)
          → (if short then 0 else if b then front_size l + passed_by i n (drop (front_size l) l) else 0)
          ≡ (if short then 0 else if b then front_size l + passed_by j n (drop (front_size l) l) else 0)
      go true b rest = refl
      go false true rest = ap (λ (k : ℕ). front_size l + k) rest
      go false false rest = refl

  -- a record before the position is passed
  pub offset_passes : (l : List ℕ) → ltb (length l) KEYED ≡ false → ltb (front_place l) n ≡ true
      → offset n l ≡ front_size l + offset n (drop (front_size l) l)
  unfolding passed_by
  offset_passes l long before =
      passed_same (length l) (suc (length l)) l (omega arith) (omega arith)
      ∙ rw (long, before) (ap (λ (k : ℕ). front_size l + k)
      (passed_same (length l) (length (drop (front_size l) l)) (drop (front_size l) l) (omega (arith, length-drop (front_size l) l)) (omega arith)))

  -- with too few bytes none is
  pub offset_short : (l : List ℕ) → ltb (length l) KEYED ≡ true → offset n l ≡ 0
  unfolding passed_by
  offset_short l short = passed_same (length l) (suc (length l)) l (omega arith) (omega arith) ∙ rw short

  -- another is not
  pub offset_stops : (l : List ℕ) → ltb (length l) KEYED ≡ false → ltb (front_place l) n ≡ false → offset n l ≡ 0
  unfolding passed_by
  offset_stops l long not = passed_same (length l) (suc (length l)) l (omega arith) (omega arith) ∙ rw (long, not)

-- a scan to a later position goes on where one to an earlier position stopped
module _ (n m : ℕ) (le : n ≤ m) where
  pub further : (i : ℕ) (l : List ℕ) → length l ≤ i → offset m l ≡ offset n l + offset m (drop (offset n l) l)
  further zero l few = rw (no_bytes l few, passed_none n 0) (omega arith)
  further (suc i) l few =
      go (ltb (length l) KEYED) (ltb (front_place l) n) refl refl (further i (drop (front_size l) l) (omega (arith, length-drop (front_size l) l)))
    where
      rest : List ℕ
      rest = drop (front_size l) l

      go : (short b : Bool) → ltb (length l) KEYED ≡ short → ltb (front_place l) n ≡ b
          → offset m rest ≡ offset n rest + offset m (drop (offset n rest) rest) → offset m l ≡ offset n l + offset m (drop (offset n l) l)
      go true b s e more = rw (offset_short n l s) (omega arith)
      go false true s e more =
          let first = offset_passes n l s e in
          let second = offset_passes m l s (lt-ltb (front_place l) m (omega (arith, ltb-true (front_place l) n e))) in
          second ∙ rw first (ap (λ (k : ℕ). front_size l + k) more
          ∙ rw (drop-drop (offset n rest) (front_size l) l) (omega arith))
      go false false s e more = rw (offset_stops n l s e) (omega arith)
