-- Records in the order of their positions (document 01, "Order"): those before a position, those from it on, and what stands at it. What is said of
-- it stands here, and why it holds in proofs/Parts.antt. Assumes nothing.
use Rattle.std.specs.Prelude.{ℕ, suc, ltb, if◌then◌else◌}
use mathlib.Core.List.{List, [], ◌∷◌}
use Rattle.image.specs.Order.{position_of}
use Rattle.image.specs.Records.{Record}

-- the position of a record
abbrev pub place_of : Record → ℕ
place_of r = position_of r.kind r.numbers

-- the records up to the first that doesn't stand before position n
unfoldable pub before : ℕ → List Record → List Record
before n [] = []
before n (r ∷ rs) = if ltb (place_of r) n then r ∷ before n rs else []

-- that record and all behind it
unfoldable pub from : ℕ → List Record → List Record
from n [] = []
from n (r ∷ rs) = if ltb (place_of r) n then from n rs else r ∷ rs

-- what stands at position n
abbrev pub found : ℕ → List Record → List Record
found n rs = before (suc n) (from n rs)
