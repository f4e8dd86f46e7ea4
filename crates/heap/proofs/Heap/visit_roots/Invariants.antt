-- The invariant: the roots before `r` are visited.
use Rattle.terms.specs.Counted.{list}
use Rattle.heap.specs.Heap.{root_at}
use Rattle.heap.specs.Visit.{Visited}
use Rattle.heap.specs.Walk.{owned_by}
use Rattle.heap.proofs.Heap.visit_roots.Given as goal

abbrev pub invariant-loop-r : goal.invariant-loop-r
invariant-loop-r l = Visited l.self (owned_by l.p) (list l.r (root_at l.self l.p)) l.fn.marks.seen l.marks.seen
