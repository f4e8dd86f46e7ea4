-- The invariant: the number of which `n` is read goes on with `rest`.
use Rattle.std.proofs.Common.{◌≡◌, ◌≤◌, length}
use Rattle.scenario.specs.Line.{digits}
use Rattle.scenario.proofs.numbers.digits.Given as goal

abbrev pub invariant-loop-rest : goal.invariant-loop-rest
invariant-loop-rest l = (l.n ≤ l.limit) × (digits l.limit 0 l.l ≡ digits l.limit l.n l.rest)

abbrev pub decreases-loop-rest : goal.decreases-loop-rest
decreases-loop-rest l = length l.rest
