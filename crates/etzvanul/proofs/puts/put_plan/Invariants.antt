-- The invariant: what is left of the changes makes the buffer what it is to be.
use Rattle.std.proofs.Common.{drop}
use Rattle.std.proofs.lemmas.List.Edits.{sets}
use Rattle.plan.specs.Made.{accepted_plan}
use Rattle.etzvanul.specs.Going.{Going}
use Rattle.etzvanul.specs.Orderly.{others}
use Rattle.etzvanul.specs.Spliced.{new_image}
use Rattle.etzvanul.proofs.puts.put_plan.Given as goal

abbrev pub invariant-loop-change : goal.invariant-loop-change
invariant-loop-change l =
    Going (sets l.fn.out 0 (new_image l.count (accepted_plan l.plan) l.l)) l.l (drop l.change-index (others (accepted_plan l.plan))) l.c.from l.c.to l.out
