-- A slice of bytes holds bytes. Assumes nothing.
use Rattle.std.proofs.Common.{List, ℕ, get_or, Fits, w8, arith}
use Rattle.image.specs.BytesLaws.{AreBytes}
use Rattle.splice.proofs.Resumed.{are_bytes}

pub slice_bytes : (l : List ℕ) → ((i : ℕ) → Fits w8 (get_or l i 0)) → AreBytes l
slice_bytes l each = are_bytes l (λ i. omega (arith, each i))
