-- A scan that goes on behind what one to an earlier position found: over any bytes, accepted or not, it finds what a scan from the start finds.
-- Assumes nothing.
use Rattle.std.specs.Prelude.{◌≡◌, Bool, true, ℕ, suc, ◌+◌, ◌≤◌, ◌<◌, eqb, drop, get_or, if◌then◌else◌}
use Rattle.std.proofs.Math.Path.{refl, sym, ap}
use Rattle.std.proofs.Common.{◌∙◌, ⊎_elim}
use Rattle.std.proofs.Math.Bool.{false}
use mathlib.Core.List.{List, [], ◌∷◌}
use native.Mathlib.Omega.{arith}
use Rattle.std.proofs.Math.ListN.{length}
use Rattle.std.proofs.Math.Seq.{drop-drop}
use borrow.Author.Tests.{eqb-true}
use Rattle.image.specs.declared.Found.{Found}
use Rattle.image.specs.Front.{Frame, Refused, Whole, frame_of}
use Rattle.image.specs.declared.RecordKind.{RecordKind}
use Rattle.image.specs.BytesLaws.{AreBytes}
use Rattle.image.proofs.BytesLaws.{bytes_drop}
use Rattle.image.specs.Find.{front_at, at_frame, offset, held_of, size_of, place, found_from}
use Rattle.image.specs.Order.{position_of}
use Rattle.image.specs.Reader.{payload}
use Rattle.image.specs.Records.{Record, row}
use Rattle.splice.proofs.Onward.{passes, pass_size}
use Rattle.splice.proofs.Scan.{further}
use Rattle.splice.specs.Onward.{From}

-- a scan to a later position goes on where one to an earlier position stopped
module _ (n m : ℕ) (le : n ≤ m) where
  pub offset_further : (l : List ℕ) → offset m l ≡ offset n l + offset m (drop (offset n l) l)
  offset_further l = further n m le (length l) l (omega arith)

module _ (n m : ℕ) (lt : n < m) where
  -- what stands at the earlier position is passed, if anything does
  past_front : (l : List ℕ) → AreBytes l
      → offset m l ≡ size_of (held_of (front_at n l)) + offset m (drop (size_of (held_of (front_at n l))) l)
  unfolding size_of
  past_front l are = go (frame_of l) refl
    where
      Past : List Record → Type 0
      Past rs = offset m l ≡ size_of (held_of rs) + offset m (drop (size_of (held_of rs)) l)

      nothing : (size : ℕ) → size ≡ 0 → offset m l ≡ size + offset m (drop size l)
      nothing size is = rw is (omega arith)

      found : (k : RecordKind) → frame_of l ≡ Whole k → (b : Bool) → eqb (position_of k (payload k l)) n ≡ b
          → Past (if b then row k (payload k l) ∷ [] else [])
      found k whole true here =
          ⊎_elim (λ e. nothing _ e)
          (λ e. passes n m lt l are k whole (eqb-true (position_of k (payload k l)) n here) e.0 e.1) (pass_size k (payload k l))
      found k whole false here = nothing _ refl

      go : (f : Frame) → frame_of l ≡ f → Past (at_frame n l f)
      go (Refused number) e = nothing _ refl
      go (Whole k) e = found k e (eqb (position_of k (payload k l)) n) refl

  -- a scan that goes on behind what was found finds what one from the start does
  pub onward_told : (l : List ℕ) → AreBytes l → found_from (found_from 0 n l).after m l ≡ found_from 0 m l
  unfolding found_from
  onward_told l are =
      let at = offset n l in
      let size = size_of (held_of (front_at n (drop at l))) in
      let rest = drop-drop size at l in
      let further = offset_further n m (omega arith) l in
      let past = rw rest at (past_front (drop at l) (bytes_drop at l are)) in
      let first : 0 + at ≡ at = omega arith in
      ap (λ (i : ℕ). found_from (i + size) m l) first ∙ finds (at + size) (omega arith) ∙ sym (finds 0 (omega arith))
    where
      finds : (from : ℕ) → from + offset m (drop from l) ≡ offset m l
          → found_from from m l ≡ place (offset m l) (held_of (front_at m (drop (offset m l) l)))
      finds from e = rw (drop-drop (offset m (drop from l)) from l, e)

-- ---- from a place on
-- where each is below 256, they are bytes
pub are_bytes : (l : List ℕ) → ((i : ℕ) → get_or l i 0 < 256) → AreBytes l
are_bytes [] each = tt
are_bytes (b ∷ bs) each = (each 0, are_bytes bs (λ i. each (suc i)))

module _ (l : List ℕ) where
  pub from_start : (m : ℕ) → From l 0 m
  from_start m = record { same = λ n le. refl }

  -- what holds from a position on holds from a later one
  pub from_later : (at m k : ℕ) → m ≤ k → From l at m → From l at k
  from_later at m k le from = record { same = λ n high. from.same n (omega arith) }

  -- what is found there
  pub found_on : {at n : ℕ} {f : Found} → From l at n → f ≡ found_from at n l → f ≡ found_from 0 n l
  found_on {n = n} from is = is ∙ from.same n (omega arith)

  -- behind what was found at a position
  pub from_found : AreBytes l → (n : ℕ) (f : Found) → f ≡ found_from 0 n l → (k : ℕ) → n < k → From l f.after k
  from_found are n f is k lt = rw is (record { same = λ m high. onward_told n m (omega arith) l are })
