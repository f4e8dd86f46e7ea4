-- A spot and its position in the image: records at one position are about one spot, and all stand before the end. Assumes nothing.
use Rattle.std.specs.Prelude.{◌≡◌, refl, List, ℕ, zero, suc, ◌+◌, ◌*◌, ◌/◌, ◌%◌, ◌<◌}
use Rattle.std.proofs.Common.{sym, ap, ◌∙◌, arith}
use Rattle.std.proofs.lemmas.Bool.{false≢true}
use Rattle.terms.specs.Counted.{one}
use Rattle.image.specs.declared.RecordKind.{RecordKind}
use Rattle.image.specs.declared.RecordKind.TheVariants.{Count, Live, NodeRoots, Directory, Remote, Reference, Decrement, End, Unknown}
use Rattle.image.specs.Content.{number}
use Rattle.image.specs.Order.{position, position_of}
use Rattle.image.specs.Spots.{Spot, count, object, roots, directory, remote, message, spot_position}
use Rattle.image.proofs.Spots.{spot_of}
use Rattle.image.proofs.Takes.{Takes, small, remote_tests}

-- the spot of a section and a key
spot_from : ℕ → ℕ → Spot
spot_from zero key = count
spot_from (suc zero) key = object key
spot_from (suc (suc zero)) key = roots key
spot_from (suc (suc (suc zero))) key = directory key
spot_from (suc (suc (suc (suc zero)))) key = remote (key / 256) (key % 256)
spot_from (suc (suc (suc (suc (suc n))))) key = message key

-- a record's position is that of its spot
pub position_spot : (k : RecordKind) (ns : List ℕ) → Takes k ns → spot_position (spot_of k ns) ≡ position_of k ns
position_spot Count ns takes = refl
position_spot Live ns takes = refl
position_spot NodeRoots ns takes = refl
position_spot Directory ns takes = refl
position_spot Remote ns takes = refl
position_spot Reference ns takes = refl
position_spot Decrement ns takes = refl
position_spot End ns takes = absurd (false≢true (sym takes.onward))
position_spot Unknown ns takes = absurd (false≢true (sym takes.known))

section_back : (s key : ℕ) → key < 65536 → (65536 * s + key) / 65536 ≡ s
section_back s key lt = omega arith

key_back : (s key : ℕ) → key < 65536 → (65536 * s + key) % 65536 ≡ key
key_back s key lt = omega arith

spot_back : (k : RecordKind) (ns : List ℕ) → Takes k ns → spot_from (position_of k ns / 65536) (position_of k ns % 65536) ≡ spot_of k ns
unfolding spot_from
spot_back Count ns takes = refl
spot_back Live ns takes =
    let lt = small Live ns takes refl in rw (section_back 1 (number ns 0) (omega arith), key_back 1 (number ns 0) (omega arith))
spot_back NodeRoots ns takes =
    let lt = small NodeRoots ns takes refl in rw (section_back 2 (number ns 0) (omega arith), key_back 2 (number ns 0) (omega arith))
spot_back Directory ns takes =
    let lt = small Directory ns takes refl in rw (section_back 3 (number ns 0) (omega arith), key_back 3 (number ns 0) (omega arith))
spot_back Remote ns takes =
    let tests = remote_tests ns takes.allowed in
    let key = 256 * number ns 0 + number ns 1 in
    let node : (256 * number ns 0 + number ns 1) / 256 ≡ number ns 0 = omega (arith, tests.object) in
    let of : (256 * number ns 0 + number ns 1) % 256 ≡ number ns 1 = omega (arith, tests.object) in
    rw (
      section_back 4 (256 * number ns 0 + number ns 1) (omega (arith, tests.node, tests.object)),
      key_back 4 (256 * number ns 0 + number ns 1) (omega (arith, tests.node, tests.object)),
      node,
      of,
    )
spot_back Reference ns takes =
    let lt = small Reference ns takes refl in rw (section_back 5 (number ns 0) (omega arith), key_back 5 (number ns 0) (omega arith))
spot_back Decrement ns takes =
    let lt = small Decrement ns takes refl in rw (section_back 5 (number ns 0) (omega arith), key_back 5 (number ns 0) (omega arith))
spot_back End ns takes = absurd (false≢true (sym takes.onward))
spot_back Unknown ns takes = absurd (false≢true (sym takes.known))

-- records at one position are about one spot
pub spot_unique : (k : RecordKind) (ns : List ℕ) (k' : RecordKind) (ns' : List ℕ) → Takes k ns → Takes k' ns'
    → position_of k ns ≡ position_of k' ns' → spot_of k ns ≡ spot_of k' ns'
spot_unique k ns k' ns' one two e =
    sym (spot_back k ns one) ∙ ap (λ (q : ℕ). spot_from (q / 65536) (q % 65536)) e ∙ spot_back k' ns' two

-- all stand before the end
pub before_end : (k : RecordKind) (ns : List ℕ) → Takes k ns → position_of k ns < position 6 0
before_end Count ns takes = omega arith
before_end Live ns takes = omega (arith, small Live ns takes refl)
before_end NodeRoots ns takes = omega (arith, small NodeRoots ns takes refl)
before_end Directory ns takes = omega (arith, small Directory ns takes refl)
before_end Remote ns takes = let tests = remote_tests ns takes.allowed in omega (arith, tests.node, tests.object)
before_end Reference ns takes = omega (arith, small Reference ns takes refl)
before_end Decrement ns takes = omega (arith, small Decrement ns takes refl)
before_end End ns takes = absurd (false≢true (sym takes.onward))
before_end Unknown ns takes = absurd (false≢true (sym takes.known))
