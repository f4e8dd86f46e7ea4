-- What is read so far.
use Rattle.std.proofs.Common.{length}
use Rattle.image.specs.Order.{first_turn}
use Rattle.image.specs.Reader.{read_from}
use Rattle.reader.proofs.Reading.{Reading}
use Rattle.reader.proofs.reads.fill.Given as goal

abbrev pub invariant-loop-front : goal.invariant-loop-front
invariant-loop-front l = Reading (read_from (length l.bytes) first_turn l.fn.table l.bytes) l.table l.turn l.rest

abbrev pub decreases-loop-front : goal.decreases-loop-front
decreases-loop-front l = length l.rest
