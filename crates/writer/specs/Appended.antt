-- Records behind what a buffer held. Definitions only; assumes nothing.
use Rattle.std.specs.Prelude.{◌≡◌, List, ◌++◌, ℕ, ◌+◌, ◌≤◌, length}
use Rattle.image.specs.Records.{Record}
use Rattle.image.specs.Writer.{bytes_of_all}

-- the bytes of these records are behind what was there, so many at most
pub record Appended (most : ℕ) (rs : List Record) (before after : List ℕ) : Type 0 where
  pub bytes : after ≡ before ++ bytes_of_all rs
  pub small : length after ≤ length before + most
