use Rattle.std.proofs.Common.{arith}
use Rattle.run.specs.Buffer.{RoomFor}
use Rattle.run.specs.Run.{ending}
use Rattle.run.proofs.Lengths.{FitsSummary, ending_most}
use Rattle.run.proofs.Written.{room_after}
use Rattle.run.proofs.line.put_ending.Goals as goal

pub put_last_line-requires : goal.put_last_line-requires
put_last_line-requires c =
    let s = c.args.s in
    let fits : FitsSummary s = record {
      events = omega arith;
      live = omega arith;
      entries = omega arith;
      messages = omega arith;
      sent = omega arith;
      saved = omega arith;
    } in
    let t = c.args.text.now in
    let whole : RoomFor t (ending s c.args.front) = record { fits = omega (arith, ending_most s fits c.args.front) } in
    room_after c.put_stop.ensures whole
