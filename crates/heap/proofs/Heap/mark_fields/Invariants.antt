-- The invariant: the fields before `f` are marked.
use Rattle.std.proofs.Common.{◌≡◌}
use Rattle.terms.specs.Counted.{list}
use Rattle.heap.specs.Heap.{field_at}
use Rattle.heap.specs.Walk.{everywhere, mark}
use Rattle.heap.proofs.Heap.mark_fields.Given as goal

abbrev pub invariant-loop-f : goal.invariant-loop-f
invariant-loop-f l = l.marks.seen ≡ mark everywhere l.fn.marks.seen (list l.f (field_at l.self l.o))
