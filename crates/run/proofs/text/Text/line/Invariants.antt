-- The invariant: there is room for what is left of the line, which makes the whole with what is written.
use Rattle.std.proofs.Common.{drop}
use Rattle.run.specs.declared.text.Text.{Text}
use Rattle.run.specs.Buffer.{RoomFor, Appends}
use Rattle.run.specs.Text.{named_line}
use Rattle.run.proofs.text.Text.line.Given as goal

abbrev pub invariant-loop-name : goal.invariant-loop-name
invariant-loop-name l = record {
  room : RoomFor l.self (named_line (drop l.name-index l.numbers));
  whole : (t : Text) → Appends l.self (named_line (drop l.name-index l.numbers)) t → Appends l.fn.self (named_line l.numbers) t;
}
