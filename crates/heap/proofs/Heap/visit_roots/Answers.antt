use Rattle.std.proofs.Common.{rules, add-one}
use Rattle.terms.specs.Counted.{list_from}
use Rattle.terms.proofs.CountedLaws.{list_last}
use Rattle.heap.proofs.Visit.{visited_none, visited_then}
use Rattle.heap.proofs.Heap.visit_roots.Goals as goal

pub loop-r-init : goal.loop-r-init
unfolding list_from
loop-r-init c = visited_none (search rules)

pub loop-r-preserved : goal.loop-r-preserved
loop-r-preserved c =
    rw (add-one c.loop-r.r, list_last c.loop-r.r) (visited_then c.loop-r.invariant (rw c.root.ensures at c.visit_object.ensures))
