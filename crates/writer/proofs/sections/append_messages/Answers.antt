use Rattle.image.specs.Stored.{MESSAGE_BYTES, message_of}
use Rattle.writer.proofs.Behind.{begun, one_more}
use Rattle.writer.proofs.Sizes.{message_size}
use Rattle.writer.proofs.sections.append_messages.Goals as goal

pub loop-s-init : goal.loop-s-init
loop-s-init c = begun MESSAGE_BYTES (message_of c.args.t.now.air)

pub loop-s-preserved : goal.loop-s-preserved
loop-s-preserved c =
    let f = message_of c.args.t.now.air in
    one_more MESSAGE_BYTES f c.loop-s.s c.loop-s.invariant
    c.append_record.ensures (rw c.message_at.ensures at c.message_record.ensures) (message_size c.loop-s.s c.args.t.now.air)
