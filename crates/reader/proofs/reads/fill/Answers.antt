use Rattle.std.proofs.Common.{rules, sym}
use denote.Enum.Bare.{same_true}
use Rattle.image.specs.contracts.RecordKind.{the_type}
use Rattle.reader.proofs.Reading.{refused, good, ended, onward}
use Rattle.reader.proofs.reads.fill.Goals as goal

pub returns-in_err-front-clause-err : goal.returns-in_err-front-clause-err
returns-in_err-front-clause-err c =
    refused c.loop-front.invariant _ c.in_err-front.ensures.front _ c.from_residual.ensures.1

pub returns-then-eq-clause-ok : goal.returns-then-eq-clause-ok
returns-then-eq-clause-ok c =
    ended c.loop-front.invariant c.in_ok-front.ensures.front (same_true the_type (search rules) _ _ (sym c.if-eq.ensures))

pub put-requires-clause-long : goal.put-requires-clause-long
put-requires-clause-long c = (good c.loop-front.invariant c.in_ok-front.ensures.front).long

pub put-requires-clause-key : goal.put-requires-clause-key
put-requires-clause-key c = (good c.loop-front.invariant c.in_ok-front.ensures.front).key

pub put-requires-clause-fits : goal.put-requires-clause-fits
put-requires-clause-fits c = (good c.loop-front.invariant c.in_ok-front.ensures.front).fits

pub loop-front-preserved : goal.loop-front-preserved
loop-front-preserved c = rw c.put.ensures (onward c.loop-front.invariant c.in_ok-front.ensures.front (search rules))
