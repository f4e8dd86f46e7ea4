use Rattle.std.proofs.Common.{◌≡◌, [], length, rules, sym, ap, ◌∙◌, arith, tests, eqb}
use Rattle.std.proofs.lemmas.Iterator.Splits.{YieldsList-from_slice_split}
use Rattle.std.proofs.lemmas.Iterator.Consumers.{YieldsList-turn, YieldsList-end}
use Rattle.std.proofs.lemmas.List.{length_push}
use Rattle.std.proofs.lemmas.List.Edits.{sets}
use Rattle.scenario.specs.Line.{One, line_told, line_feed}
use Rattle.scenario.specs.Records.{record_of, records_in, records_of}
use Rattle.scenario.specs.RecordLaws.{records_one, record_length}
use Rattle.scenario.proofs.LineLaws.{cut, IsLine}
use Rattle.scenario.proofs.Passes.{stored_none, stored_line, stored_room, stored_all, put_bytes}
use Rattle.scenario.proofs.put_all.Goals as goal
use Rattle.scenario.proofs.put_all.Goals.{After-read_line}

-- the line that was read
read : (c : After-read_line) → IsLine (cut c.args.text.now) (length c.loop-line.yielded) c.in-Some.line.now (line_told c.read_line.result)
read c =
    let road = YieldsList-from_slice_split _ (λ b. eqb b line_feed) c.args.text.now (cc) (cc) (cc) (λ x b q k. search (rules, tests)) in
    let turn = YieldsList-turn road c.loop-line.yielded _ c.loop-line.yielded_by _ _ c.in-Some.line c.in-Some.is c.next.ensures.steps in
    record { within = turn.0; here = turn.1; told = c.read_line.ensures }

pub loop-line-init : goal.loop-line-init
loop-line-init c = stored_none _ _

pub loop-line-preserved : goal.loop-line-preserved
unfolding records_of
loop-line-preserved c =
    let none : records_in (line_told c.read_line.result) ≡ [] = search rules in
    stored_line c.loop-line.invariant (read (goal.at.loop-line-preserved c).After-read_line) (length_push _ _) (omega (arith, ap length none)) (sym (ap (sets c.loop-line.out c.loop-line.to) none))

pub loop-line-preserved-in-None-read_line-2 : goal.loop-line-preserved-in-None-read_line-2
unfolding records_of
loop-line-preserved-in-None-read_line-2 c =
    let none : records_in (line_told c.read_line.result) ≡ [] = search rules in
    stored_line c.loop-line.invariant (read (goal.at.loop-line-preserved-in-None-read_line-2 c).After-read_line) (length_push _ _) (omega (arith, ap length none)) (sym (ap (sets c.loop-line.out c.loop-line.to) none))

pub slice_bounds-copy_from_slice-end : goal.slice_bounds-copy_from_slice-end
slice_bounds-copy_from_slice-end c =
    let told : line_told c.read_line.result ≡ One c.in-Ok-Some.e = search rules in
    let one : records_in (line_told c.read_line.result) ≡ record_of c.in-Ok-Some.e = ap records_in told ∙ records_one c.in-Ok-Some.e in
    omega (arith, stored_room c.loop-line.invariant (read (goal.at.slice_bounds-copy_from_slice-end c).After-read_line) c.requires, ap length one, record_length c.in-Ok-Some.e)

pub loop-line-preserved-in-Some-read_line-2 : goal.loop-line-preserved-in-Some-read_line-2
loop-line-preserved-in-Some-read_line-2 c =
    let at = read (goal.at.loop-line-preserved-in-Some-read_line-2 c).After-read_line in
    let told : line_told c.read_line.result ≡ One c.in-Ok-Some.e = search rules in
    let one : records_in (line_told c.read_line.result) ≡ record_of c.in-Ok-Some.e = ap records_in told ∙ records_one c.in-Ok-Some.e in
    let size = record_length c.in-Ok-Some.e in
    let room = stored_room c.loop-line.invariant at c.requires in
    stored_line c.loop-line.invariant at (length_push _ _) (omega (arith, ap length one, size))
    (put_bytes _ _ _ _ (records_in (line_told c.read_line.result)) (search rules ∙ sym one) (omega (arith, ap length one, size)) room)

pub returns : goal.returns
returns c =
    let road = YieldsList-from_slice_split _ (λ b. eqb b line_feed) c.args.text.now (cc) (cc) (cc) (λ x b q k. search (rules, tests)) in
    let end = YieldsList-end road c.loop-line.yielded _ c.loop-line.yielded_by _ _ c.in-None.is c.next.ensures.steps in
    let all = stored_all c.loop-line.invariant end.1 c.requires in
    record { value = all.0; out_after = all.1 }
