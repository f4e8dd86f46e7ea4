-- A scan that goes on behind what one to an earlier position found: over any bytes, accepted or not, it finds what a scan from the start finds.
-- What is said of it stands here, and why it holds in proofs/Resumed.antt. Assumes nothing.
use Rattle.std.specs.Prelude.{◌≡◌, ℕ, ◌≤◌}
use mathlib.Core.List.{List}
use Rattle.image.specs.Find.{found_from}

-- from position m on, a scan from this place finds what one from the start does
pub record From (l : List ℕ) (at m : ℕ) : Type 0 where
  pub same : (n : ℕ) → m ≤ n → found_from at n l ≡ found_from 0 n l
