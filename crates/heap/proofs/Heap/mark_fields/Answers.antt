use Rattle.heap.specs.Heap.{field_at}
use Rattle.heap.proofs.Reached.{mark-last}
use Rattle.heap.proofs.Heap.mark_fields.Goals as goal

pub loop-f-preserved : goal.loop-f-preserved
loop-f-preserved c = mark-last c.args.marks.now.seen (field_at c.args.self.now c.args.o) c.loop-f.f c.loop-f.invariant (rw c.field.ensures at c.set_mark.ensures)
