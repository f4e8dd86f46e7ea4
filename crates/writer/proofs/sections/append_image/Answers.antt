use Rattle.std.specs.Prelude.{[]}
use Rattle.std.proofs.Common.{arith}
use Rattle.image.specs.Writer.{bytes_of_all}
use Rattle.image.specs.Stored.{COUNT_BYTES, END_BYTES}
use Rattle.writer.specs.Appended.{Appended}
use Rattle.writer.proofs.Behind.{appended}
use Rattle.writer.proofs.InOrder.{count_record, end_record, whole}
use Rattle.writer.proofs.sections.append_image.Goals as goal

pub returns-clause-all : goal.returns-clause-all
unfolding bytes_of_all
returns-clause-all c =
    let t = c.args.t.now in
    let begun = rw c.requires at c.append_record.ensures in
    let count : Appended COUNT_BYTES (count_record t) [] c.append_record.new.self =
    appended COUNT_BYTES (count_record t) begun c.count_record.ensures (omega arith) in
    let end = appended END_BYTES (end_record t) c.append_record-2.ensures c.end_record.ensures (omega arith) in
    whole t count c.append_heap.ensures c.append_entries.ensures c.append_messages.ensures end
