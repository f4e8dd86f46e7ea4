use Rattle.std.proofs.Common.{arith}
use Rattle.run.proofs.NamedLine.{named_line_all, named_line_more}
use Rattle.run.proofs.Written.{appends_both, room_after, room_front}
use Rattle.run.proofs.text.Text.line.Goals as goal

pub text-requires : goal.text-requires
text-requires c =
    let left = named_line_more c.args.numbers.now c.loop-name.name-index (omega arith) in
    room_front _ (rw left at c.loop-name.invariant.room)

pub decimal-requires : goal.decimal-requires
decimal-requires c =
    let left = named_line_more c.args.numbers.now c.loop-name.name-index (omega arith) in
    room_front _ (room_after c.text.ensures (rw left at c.loop-name.invariant.room))

pub loop-name-preserved : goal.loop-name-preserved
loop-name-preserved c =
    let left = named_line_more c.args.numbers.now c.loop-name.name-index (omega arith) in
    record {
      room = room_after c.decimal.ensures (room_after c.text.ensures (rw left at c.loop-name.invariant.room));
      whole = λ t w. c.loop-name.invariant.whole t (rw left (appends_both c.text.ensures (appends_both c.decimal.ensures w)));
    }

pub returns : goal.returns
returns c =
    let none = named_line_all c.args.numbers.now c.loop-name.name-index (omega arith) in
    c.loop-name.invariant.whole c.text-2.new.self (rw none c.text-2.ensures)
