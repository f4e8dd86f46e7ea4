use Rattle.std.proofs.Common.{rules}
use Rattle.step.specs.Move.{move}
use Rattle.step.proofs.roots.move_root.Goals as goal

pub returns : goal.returns
unfolding move
returns c = search rules
