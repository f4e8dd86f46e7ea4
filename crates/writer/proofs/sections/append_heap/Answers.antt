use Rattle.std.specs.Prelude.{List, ℕ}
use Rattle.std.proofs.Common.{arith}
use Rattle.heap.specs.declared.Heap.{Heap}
use Rattle.heap.specs.Heap.{object_at, roots_at}
use Rattle.image.specs.Records.{Record}
use Rattle.image.specs.Stored.{OBJECT_BYTES, ROOTS_BYTES, live_record, node_record}
use Rattle.writer.proofs.Behind.{begun, one_more, all, appended_both}
use Rattle.writer.proofs.Sizes.{object_size, roots_size}
use Rattle.writer.proofs.sections.append_heap.Goals as goal

abbrev objects : Heap → ℕ → List Record
objects h o = live_record o (object_at h o)

abbrev nodes : Heap → ℕ → List Record
nodes h p = node_record p (roots_at h p)

pub loop-o-init : goal.loop-o-init
loop-o-init c = begun OBJECT_BYTES (objects c.args.heap.now)

pub loop-o-preserved : goal.loop-o-preserved
loop-o-preserved c =
    let h = c.args.heap.now in
    let o = c.loop-o.o in
    one_more OBJECT_BYTES (objects h) o c.loop-o.invariant
    c.append_record.ensures c.object_record.ensures (object_size o (object_at h o))

pub loop-p-init : goal.loop-p-init
loop-p-init c = begun ROOTS_BYTES (nodes c.args.heap.now)

pub loop-p-preserved : goal.loop-p-preserved
loop-p-preserved c =
    let h = c.args.heap.now in
    let p = c.loop-p.p in
    one_more ROOTS_BYTES (nodes h) p c.loop-p.invariant
    c.append_record-in-loop-p.ensures c.roots_record.ensures (roots_size p (roots_at h p))

pub returns : goal.returns
returns c =
    let h = c.args.heap.now in
    appended_both
    (all OBJECT_BYTES (objects h) c.loop-o.o 64 (omega arith) c.loop-o.invariant)
    (all ROOTS_BYTES (nodes h) c.loop-p.p 8 (omega arith) c.loop-p.invariant)
