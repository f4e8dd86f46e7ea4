-- What comes of a scenario. Definitions only; assumes nothing.
use Rattle.std.specs.Prelude.{ℕ}

-- The answer is 0, EVENT or ROOM; length is that of the records written; line is the number of the bad line, counted from 1, or 0.
pub record Written : Type 0 where
  pub answer : ℕ
  pub length : ℕ
  pub line : ℕ
