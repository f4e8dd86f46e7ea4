use Rattle.std.proofs.Common.{refl, arith}
use Rattle.etzvanul.proofs.Planning.{plan_next}
use Rattle.etzvanul.proofs.Sweeping.{measured_on}
use Rattle.etzvanul.proofs.puts.length_after.Goals as goal

pub loop-change-preserved : goal.loop-change-preserved
loop-change-preserved c =
    let is = plan_next c.args.plan.now c.changes-change-items.result c.changes-change-items.ensures c.loop-change.change-index _ c.loop-change-test.true in
    measured_on c.loop-change.invariant is refl c.length_with-length.ensures (omega arith)
