use Rattle.std.proofs.Common.{length}
use Rattle.scenario.proofs.Passes.{Counts}
use Rattle.scenario.proofs.check.Given as goal

abbrev pub invariant-loop-i : goal.invariant-loop-i
invariant-loop-i l = Counts l.text (length l.yielded) l.events
