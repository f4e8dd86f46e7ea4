-- Every accepted event did what Did.antt says of its kind: `did`. What is said of it stands here, and why it holds in proofs/Events/DidLaws.antt.
-- Assumes nothing.
use Rattle.std.specs.Prelude.{◌<◌}
use Rattle.step.specs.declared.Event.{Event}
use Rattle.step.specs.declared.Ranges.{Ranges}

-- ---- operands

-- each operand is below its bound
pub record Below (r : Ranges) (e : Event) : Type 0 where
  pub a : e.a < r.a
  pub b : e.b < r.b
  pub c : e.c < r.c
  pub d : e.d < r.d
