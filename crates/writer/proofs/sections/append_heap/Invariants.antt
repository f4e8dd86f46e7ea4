-- The objects so far are appended, and behind them all the roots of the nodes so far.
use Rattle.heap.specs.Heap.{object_at, roots_at}
use Rattle.image.specs.Stored.{OBJECT_BYTES, ROOTS_BYTES, live_record, node_record}
use Rattle.writer.proofs.Behind.{Below}
use Rattle.writer.proofs.sections.append_heap.Given as goal

abbrev pub invariant-loop-o : goal.invariant-loop-o
invariant-loop-o l = Below OBJECT_BYTES (λ o. live_record o (object_at l.fn.heap o)) l.o l.initial.image l.image

abbrev pub invariant-loop-p : goal.invariant-loop-p
invariant-loop-p l = Below ROOTS_BYTES (λ p. node_record p (roots_at l.fn.heap p)) l.p l.initial.image l.image
