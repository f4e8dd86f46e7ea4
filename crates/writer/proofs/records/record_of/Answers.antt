use Rattle.std.proofs.Common.{◌∙◌, ap, length, length-take-le, arith}
use Rattle.writer.proofs.records.record_of.Goals as goal

pub returns : goal.returns
returns c =
    let whole = c.into_record.ensures in
    let bytes = whole.front ∙ c.held_record.ensures in
    record {
      room = whole.room;
      small = whole.small;
      size = omega (arith, whole.room, whole.small, length-take-le c.into_record.result.length c.into_record.result.bytes, ap length bytes);
      front = bytes;
    }
