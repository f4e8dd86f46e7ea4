-- Numbers to bytes and back lose nothing, singly and packed one behind the other. What is said of it stands here, and why it holds in
-- proofs/BytesLaws.antt. Assumes nothing.
use Rattle.std.specs.Prelude.{List, [], ◌∷◌, ℕ, ◌<◌}

-- each is a byte
abbrev pub AreBytes : List ℕ → Type 0
AreBytes [] = Unit
AreBytes (b ∷ bs) = (b < 256) × AreBytes bs
