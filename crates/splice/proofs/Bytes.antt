-- The same on the bytes of an image: a scan over records finds a position, and the image of a changed table is the old image with the bytes
-- at some positions replaced, copied once from front to end. Assumes nothing.
use Rattle.std.specs.Prelude.{◌≡◌, refl, Bool, true, false, List, [], ◌∷◌, ◌++◌, ℕ, zero, suc, ◌+◌, ◌≤◌, ◌<◌, ltb, length, take, drop, if◌then◌else◌}
use Rattle.std.proofs.Common.{sym, ap, ◌∙◌, arith, length-append, take_at, drop_at, ltb-true, le-ltb}
use Rattle.table.specs.declared.Table.{Table}
use Rattle.image.specs.declared.Turn.{Turn}
use Rattle.image.proofs.BytesLaws.{Fit}
use Rattle.image.specs.Find.{KEYED, passed_by, offset}
use Rattle.image.specs.Order.{position}
use Rattle.image.proofs.ReadLaws.{Reads, ends, takes, front_rest, front_length, length-bytes_of_all, bytes_append}
use Rattle.image.specs.Records.{Record, HEAD, is_unknown, length_of, widths_of}
use Rattle.image.specs.Spots.{Spot, count, object, roots, directory, remote, message, spot_position}
use Rattle.image.specs.Writer.{bytes_of_all}
use Rattle.splice.proofs.Fronts.{front_kind_lem, front_place_lem, front_keyed}
use Rattle.splice.specs.Parts.{place_of, before, from}
use Rattle.splice.proofs.Parts.{before-from, before-before}
use Rattle.splice.specs.Patched.{Change, place_in, Ascends}
use Rattle.splice.proofs.Patched.{patched}
use Rattle.splice.specs.Spread.{Within}
use Rattle.splice.specs.Bytes.{patched_bytes}

-- ---- records of kinds that there are, whose numbers fit

abbrev pub Fits : List Record → Type 0
Fits [] = Unit
Fits (r ∷ rs) = (is_unknown r.kind ≡ false) × (Fit (widths_of r.kind) r.numbers × Fits rs)

-- those that are read fit
pub reads_fit : {now : Turn} {t u : Table} {rs : List Record} → Reads now t rs u → Fits rs
reads_fit (ends turns same) = (refl, (tt, tt))
reads_fit (takes k ns go_on known fit turns fits more) = (known, (fit, reads_fit more))

-- and so do those from a position on
pub from_fit : (n : ℕ) (rs : List Record) → Fits rs → Fits (from n rs)
unfolding from
from_fit n [] fit = tt
from_fit n (r ∷ rs) fit = go (ltb (place_of r) n) (from_fit n rs fit.1.1)
  where
    go : (b : Bool) → Fits (from n rs) → Fits (if b then from n rs else r ∷ rs)
    go true rest = rest
    go false rest = fit

-- ---- the scan

-- it passes the records before the position
passed_is : (i n : ℕ) (rs : List Record) → length rs ≤ i → n ≤ position 6 0 → Fits rs
    → passed_by i n (bytes_of_all rs) ≡ length (bytes_of_all (before n rs))
unfolding passed_by bytes_of_all before
passed_is zero n [] le top fit = refl
passed_is (suc i) n [] le top fit = refl
passed_is zero n (r ∷ rs) le top fit = absurd (omega arith)
passed_is (suc i) n (r ∷ rs) le top fit =
    rw (front_place_lem r.kind r.numbers (bytes_of_all rs) fit.0 fit.1.0, front_kind_lem r.kind r.numbers (bytes_of_all rs) fit.0)
    (rw (front_rest r.kind r.numbers (bytes_of_all rs) fit.1.0)
    (go (ltb (place_of r) n) refl (passed_is i n rs (omega arith) top fit.1.1)))
  where
    long : ℕ
    long = length (bytes_of_all (r ∷ rs))

    none : (b : Bool) → ◌≡◌ {A = ℕ} (if b then 0 else 0) 0
    none true = refl
    none false = refl

    go : (b : Bool) → ltb (place_of r) n ≡ b → passed_by i n (bytes_of_all rs) ≡ length (bytes_of_all (before n rs))
        → (if ltb long KEYED then 0 else if b then HEAD + length_of r.kind + passed_by i n (bytes_of_all rs) else 0)
        ≡ length (bytes_of_all (if b then r ∷ before n rs else []))
    go true e rest =
        let keyed = front_keyed r.kind r.numbers (omega (arith, ltb-true (place_of r) n e)) in
        let whole = front_length r.kind r.numbers (bytes_of_all rs) fit.1.0 in
        rw (le-ltb long KEYED (omega arith), rest) (sym (front_length r.kind r.numbers (bytes_of_all (before n rs)) fit.1.0))
    go false e rest = none (ltb long KEYED)

module _ (n : ℕ) (top : n ≤ position 6 0) (rs : List Record) (fit : Fits rs) where
  offset_is : offset n (bytes_of_all rs) ≡ length (bytes_of_all (before n rs))
  offset_is = passed_is (length (bytes_of_all rs)) n rs (length-bytes_of_all rs) top fit

  parts : bytes_of_all (before n rs) ++ bytes_of_all (from n rs) ≡ bytes_of_all rs
  parts = sym (bytes_append (before n rs) (from n rs)) ∙ ap bytes_of_all (before-from n rs)

  -- the bytes up to there are those of the records before the position
  pub take-offset : take (offset n (bytes_of_all rs)) (bytes_of_all rs) ≡ bytes_of_all (before n rs)
  take-offset =
      ap (take (offset n (bytes_of_all rs))) (sym parts)
      ∙ take_at (bytes_of_all (before n rs)) (bytes_of_all (from n rs)) (offset n (bytes_of_all rs)) (sym offset_is)

  -- and the others are those of the records from it on
  pub drop-offset : drop (offset n (bytes_of_all rs)) (bytes_of_all rs) ≡ bytes_of_all (from n rs)
  drop-offset =
      ap (drop (offset n (bytes_of_all rs))) (sym parts)
      ∙ drop_at (bytes_of_all (before n rs)) (bytes_of_all (from n rs)) (offset n (bytes_of_all rs)) (sym offset_is)

  -- no more bytes are passed than there are
  pub offset_within : offset n (bytes_of_all rs) ≤ length (bytes_of_all rs)
  offset_within = omega (arith, offset_is, ap length parts, length-append (bytes_of_all (before n rs)) (bytes_of_all (from n rs)))

  -- a scan to a later position goes on from there
  pub offset_onward : (m : ℕ) → n ≤ m → m ≤ position 6 0
      → offset m (bytes_of_all rs) ≡ offset n (bytes_of_all rs) + length (bytes_of_all (before m (from n rs)))
  offset_onward m le top' =
      passed_is (length (bytes_of_all rs)) m rs (length-bytes_of_all rs) top' fit
      ∙ ap (λ (l : List Record). length (bytes_of_all l)) (before-before n m le rs)
      ∙ ap length (bytes_append (before n rs) (before m (from n rs)))
      ∙ length-append (bytes_of_all (before n rs)) (bytes_of_all (before m (from n rs)))
      ∙ ap (λ (k : ℕ). k + length (bytes_of_all (before m (from n rs)))) (sym offset_is)

-- ---- the changes, made on bytes

-- each spot of a field stands before the end
pub spot_small : (s : Spot) → Within s → spot_position s < position 6 0
spot_small count in' = omega arith
spot_small (object o) in' = omega arith
spot_small (roots p) in' = omega arith
spot_small (directory o) in' = omega arith
spot_small (remote p o) in' = omega (arith, in'.0, in'.1)
spot_small (message s) in' = omega arith

-- records changed have the bytes changed
pub patched_bytes_lem : (m : ℕ) (cs : List Change) (rs : List Record) → Ascends m cs → Fits rs
    → bytes_of_all (patched cs rs) ≡ patched_bytes cs (bytes_of_all rs)
unfolding patched patched_bytes
patched_bytes_lem m [] rs up fit = refl
patched_bytes_lem m (c ∷ cs) rs up fit =
    let small = spot_small c.spot up.1.0 in
    let after : List Record = from (suc (place_in c)) rs in
    bytes_append (before (place_in c) rs) (c.records ++ patched cs after)
    ∙ rw (
      bytes_append c.records (patched cs after),
      patched_bytes_lem (suc (place_in c)) cs after up.1.1 (from_fit (suc (place_in c)) rs fit),
      take-offset (place_in c) (omega arith) rs fit,
      drop-offset (suc (place_in c)) (omega arith) rs fit,
    )
