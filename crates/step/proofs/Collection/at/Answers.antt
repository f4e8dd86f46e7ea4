use Rattle.step.proofs.CollectionLaws.{asked}
use Rattle.step.proofs.Collection.at.Goals as goal

pub returns : goal.returns
returns c =
    let found = asked c.args.t.now c.counted.ensures.cells c.args.p c.new.result (rw (← c.counted.ensures.counted, ← c.present.ensures) c.new.ensures) in
    record { made = found.0; torn = found.1; cells = c.counted.ensures.cells }
