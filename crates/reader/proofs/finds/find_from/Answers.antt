use Rattle.reader.proofs.Scanning.{stopped, ended}
use Rattle.reader.proofs.finds.find_from.Goals as goal

pub returns-then-position-place_of : goal.returns-then-position-place_of
returns-then-position-place_of c =
    stopped c.loop-at.invariant c.loop-at-test.true _ c.kind_of_low-kind.ensures _ c.place_of.ensures c.if-position-place_of.true

pub returns : goal.returns
returns c = ended c.loop-at.invariant c.loop-at-test.false
