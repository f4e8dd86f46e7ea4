-- The loop is the reader's, with a table that nobody keeps.
use Rattle.std.proofs.Common.{length}
use Rattle.reader.proofs.Checking.{Checking}
use Rattle.reader.proofs.checks.check.Given as goal

abbrev pub invariant-loop-front : goal.invariant-loop-front
invariant-loop-front l = Checking l.bytes l.turn l.rest

abbrev pub decreases-loop-front : goal.decreases-loop-front
decreases-loop-front l = length l.rest
