-- What the plans and COLLECT's changes are in the words of the definitions: a part of an image replaced by another record, or nothing replaced.
-- Definitions only; assumes nothing.
use Rattle.std.specs.Prelude.{Bool, List, ℕ}
use Rattle.image.specs.declared.Held.{Held}
use Rattle.step.specs.Deed.{Deed}

-- from where to where in the bytes, and what is to stand there of object, node or place a, or of object b at node a
pub data Change : Type 0 where
  Same : Change
  To : (at after a b : ℕ) (held : Held) → Change

-- the answer and the deed as they are of the table, and the changes besides the event count, in the order of the image
pub record Plan : Type 0 where
  pub answer : ℕ
  pub deed : Deed
  pub object : Change
  pub roots : Change
  pub entry : Change
  pub message : Change

-- what COLLECT comes to: the answer, how many objects are reclaimed, which they are, and for which objects of other nodes the entry is no longer
-- used
pub record Sweep : Type 0 where
  pub answer : ℕ
  pub reclaimed : ℕ
  pub gone : List Bool
  pub unused : List Bool
