use Rattle.std.proofs.Common.{rules, arith}
use Rattle.table.specs.Table.{fresh_table}
use Rattle.step.specs.Outcome.{outcome_of}
use Rattle.run.specs.Buffer.{Appends}
use Rattle.run.specs.Run.{line}
use Rattle.run.proofs.Lengths.{FitsEvent, line_room, line_short}
use Rattle.run.proofs.line.put_line.Goals as goal

pub line-requires : goal.line-requires
unfolding line
line-requires c =
    let e = c.args.e in
    let fits : FitsEvent e = record { kind = omega arith; a = omega arith; b = omega arith; c = omega arith; d = omega arith } in
    let o = outcome_of c.args.outcome fresh_table in
    let answer = c.answer_and_value-answer.ensures.answer fresh_table in
    let value = c.answer_and_value-answer.ensures.value fresh_table in
    rw (c.from.ensures, c.from-2.ensures, c.from-3.ensures, c.from-4.ensures, c.from-5.ensures, c.from-6.ensures, answer, value)
    (line_room c.args.number e o fits c.requires.few (omega (arith, answer)) (omega (arith, value)) c.args.text.now c.requires.room)

pub returns-clause-short : goal.returns-clause-short
unfolding line
returns-clause-short c =
    let e = c.args.e in
    let fits : FitsEvent e = record { kind = omega arith; a = omega arith; b = omega arith; c = omega arith; d = omega arith } in
    let o = outcome_of c.args.outcome fresh_table in
    let answer = c.answer_and_value-answer.ensures.answer fresh_table in
    let value = c.answer_and_value-answer.ensures.value fresh_table in
    let written : Appends c.args.text.now (line c.args.number e o) c.line.new.self = search rules in
    line_short c.args.number e o fits c.requires.few (omega (arith, answer)) (omega (arith, value)) c.args.text.now c.line.new.self written
