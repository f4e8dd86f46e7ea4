-- The invariant: the roots before `r` are marked.
use Rattle.std.proofs.Common.{◌≡◌}
use Rattle.terms.specs.Counted.{list}
use Rattle.heap.specs.Heap.{root_at}
use Rattle.heap.specs.Walk.{everywhere, unmarked, mark}
use Rattle.heap.proofs.Heap.held.Given as goal

abbrev pub invariant-loop-r : goal.invariant-loop-r
invariant-loop-r l = l.held.seen ≡ mark everywhere unmarked (list l.r (root_at l.self l.p))
