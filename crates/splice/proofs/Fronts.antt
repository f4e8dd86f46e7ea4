-- A record at the front of bytes, as the scan looks at it: the low byte of its kind, its first two keys, its frame. Assumes nothing.
use Rattle.std.specs.Prelude.{◌≡◌, refl, false, List, [], ◌∷◌, ℕ, ◌+◌, ◌%◌, ◌^◌, ◌≤◌, ◌<◌, length}
use Rattle.std.proofs.Common.{ap, true≢false, arith, le-ltb, eq-eqb}
use Rattle.image.specs.Front.{Whole, frame_of}
use Rattle.image.specs.declared.RecordKind.{RecordKind}
use Rattle.image.specs.declared.RecordKind.TheVariants.{Count, Live, NodeRoots, Directory, Remote, Reference, Decrement, End, Unknown}
use Rattle.image.proofs.BytesLaws.{Fit}
use Rattle.image.specs.Find.{kind_of_low, front_kind, front_place, KEYED}
use Rattle.image.specs.Order.{position, position_of}
use Rattle.image.proofs.ReadLaws.{front, stated_length_lem, stated_kind_lem, front_length}
use Rattle.image.specs.Records.{HEAD, is_unknown, length_of, widths_of}

-- the low byte tells the kind
pub front_kind_lem : (k : RecordKind) (ns rest : List ℕ) → is_unknown k ≡ false → front_kind (front k ns rest) ≡ k
unfolding kind_of_low
front_kind_lem Count ns rest known = refl
front_kind_lem Live ns rest known = refl
front_kind_lem NodeRoots ns rest known = refl
front_kind_lem Directory ns rest known = refl
front_kind_lem Remote ns rest known = refl
front_kind_lem Reference ns rest known = refl
front_kind_lem Decrement ns rest known = refl
front_kind_lem End ns rest known = refl
front_kind_lem Unknown ns rest known = absurd (true≢false known)

-- a key is a byte
byte : (n : ℕ) → n < 256 ^ 1 → n % 256 ≡ n
byte n lt = omega arith

-- the first two keys tell the position
pub front_place_lem : (k : RecordKind) (ns rest : List ℕ) → is_unknown k ≡ false → Fit (widths_of k) ns → front_place (front k ns rest) ≡ position_of k ns
unfolding kind_of_low
front_place_lem Count ns rest known fit = refl
front_place_lem Live [] rest known fit = absurd fit
front_place_lem Live (n ∷ ns) rest known fit = ap (position 1) (byte n fit.0)
front_place_lem NodeRoots [] rest known fit = absurd fit
front_place_lem NodeRoots (n ∷ ns) rest known fit = ap (position 2) (byte n fit.0)
front_place_lem Directory [] rest known fit = absurd fit
front_place_lem Directory (n ∷ ns) rest known fit = ap (position 3) (byte n fit.0)
front_place_lem Remote [] rest known fit = absurd fit
front_place_lem Remote (n ∷ []) rest known fit = absurd fit.1
front_place_lem Remote (p ∷ o ∷ ns) rest known fit = rw (byte p fit.0, byte o fit.1.0)
front_place_lem Reference [] rest known fit = absurd fit
front_place_lem Reference (n ∷ ns) rest known fit = ap (position 5) (byte n fit.0)
front_place_lem Decrement [] rest known fit = absurd fit
front_place_lem Decrement (n ∷ ns) rest known fit = ap (position 5) (byte n fit.0)
front_place_lem End ns rest known fit = refl
front_place_lem Unknown ns rest known fit = absurd (true≢false known)

-- a record before the end has both keys
pub front_keyed : (k : RecordKind) (ns : List ℕ) → position_of k ns < position 6 0 → KEYED ≤ HEAD + length_of k
front_keyed Count ns lt = omega arith
front_keyed Live ns lt = omega arith
front_keyed NodeRoots ns lt = omega arith
front_keyed Directory ns lt = omega arith
front_keyed Remote ns lt = omega arith
front_keyed Reference ns lt = omega arith
front_keyed Decrement ns lt = omega arith
front_keyed End ns lt = absurd (omega arith)
front_keyed Unknown ns lt = absurd (omega arith)

-- its frame is whole
pub front_whole : (k : RecordKind) (ns rest : List ℕ) → is_unknown k ≡ false → Fit (widths_of k) ns → frame_of (front k ns rest) ≡ Whole k
unfolding frame_of
front_whole k ns rest known fit =
    let long = front_length k ns rest fit in
    rw (
      stated_kind_lem k ns rest,
      known,
      stated_length_lem k ns rest,
      le-ltb (length (front k ns rest)) HEAD (omega arith),
      le-ltb (length (front k ns rest)) (HEAD + length_of k) (omega arith),
      eq-eqb (length_of k) (length_of k) refl,
    )
