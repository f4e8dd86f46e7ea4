use Rattle.std.proofs.Common.{rules, sym}
use denote.Enum.Bare.{same_true}
use Rattle.image.specs.contracts.RecordKind.{the_type}
use Rattle.reader.proofs.Checking.{refused, accepted}
use Rattle.reader.proofs.checks.check.Goals as goal

pub returns-in-Err : goal.returns-in-Err
returns-in-Err c =
    refused c.loop-front.invariant _ c.in-Err.ensures.front

pub returns-in-Ok : goal.returns-in-Ok
returns-in-Ok c =
    accepted c.loop-front.invariant c.in-Ok.ensures.front (same_true the_type (search rules) _ _ (sym c.if-eq.ensures))
