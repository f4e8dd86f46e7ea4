-- The invariant: what is passed so far is part of the offset.
use Rattle.std.proofs.Common.{length, ◌-◌}
use Rattle.reader.proofs.Scanning.{Scan}
use Rattle.reader.proofs.finds.find_from.Given as goal

abbrev pub invariant-loop-at : goal.invariant-loop-at
invariant-loop-at l = Scan l.bytes l.from l.position l.at

abbrev pub decreases-loop-at : goal.decreases-loop-at
decreases-loop-at l = length l.bytes - l.at
