use Rattle.std.proofs.Common.{length}
use Rattle.scenario.proofs.Passes.{Stored}
use Rattle.scenario.proofs.put_all.Given as goal

abbrev pub invariant-loop-line : goal.invariant-loop-line
invariant-loop-line l = Stored l.text l.fn.out (length l.yielded) l.to l.out
