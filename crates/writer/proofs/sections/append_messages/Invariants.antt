-- The messages of the places so far are appended.
use Rattle.image.specs.Stored.{MESSAGE_BYTES, message_of}
use Rattle.writer.proofs.Behind.{Below}
use Rattle.writer.proofs.sections.append_messages.Given as goal

abbrev pub invariant-loop-s : goal.invariant-loop-s
invariant-loop-s l = Below MESSAGE_BYTES (message_of l.fn.t.air) l.s l.initial.image l.image
