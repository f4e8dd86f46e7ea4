-- The invariant: what stands behind the blanks is the same.
use Rattle.std.proofs.Common.{◌≡◌, length}
use Rattle.scenario.specs.Line.{skipped}
use Rattle.scenario.proofs.numbers.skip.Given as goal

abbrev pub invariant-loop-rest : goal.invariant-loop-rest
invariant-loop-rest l = skipped l.l ≡ skipped l.rest

abbrev pub decreases-loop-rest : goal.decreases-loop-rest
decreases-loop-rest l = length l.rest
