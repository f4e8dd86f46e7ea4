-- The invariant: the length so far and what is left of the changes make the whole.
use Rattle.std.proofs.Common.{drop, ◌+◌, ◌*◌}
use Rattle.image.specs.Stored.{FULL}
use Rattle.plan.specs.Made.{accepted_plan}
use Rattle.etzvanul.specs.Going.{Measured}
use Rattle.etzvanul.specs.Orderly.{length_after, others}
use Rattle.etzvanul.proofs.puts.length_after.Given as goal

abbrev pub invariant-loop-change : goal.invariant-loop-change
invariant-loop-change l =
    Measured l.n (length_after l.n (others (accepted_plan l.plan))) (FULL + 20 * l.change-index) (drop l.change-index (others (accepted_plan l.plan))) l.length
