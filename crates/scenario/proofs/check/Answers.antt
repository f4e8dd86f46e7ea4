use Rattle.std.proofs.Common.{◌≡◌, ◌+◌, ℕ, false, true, [], length, rules, refl, ap, ◌∙◌, arith, tests, eqb, Err}
use Rattle.std.proofs.lemmas.Iterator.Splits.{YieldsList-from_slice_split}
use Rattle.std.proofs.lemmas.Iterator.Consumers.{YieldsList-from_enumerate, YieldsList-at, YieldsList-turn, YieldsList-end}
use Rattle.std.proofs.lemmas.List.{length_push}
use Rattle.std.proofs.lemmas.List.FromFn.{length-enumerate_from}
use Rattle.scenario.specs.declared.Unwritten.TheVariants.{BadLine}
use Rattle.scenario.specs.Line.{One, line_told, line_feed}
use Rattle.scenario.specs.Text.{is_bad, events_in}
use Rattle.scenario.proofs.LineLaws.{cut, IsLine, one_event, numbered}
use Rattle.scenario.proofs.Passes.{counts_none, counts_line, counts_bad, counts_all}
use Rattle.scenario.proofs.MeaningLaws.{checked_bad_line, checked_good_lines}
use Rattle.scenario.proofs.check.Goals as goal
use Rattle.scenario.proofs.check.Goals.{After-read_line}

-- the line that was read, and its number
read : (c : After-read_line) → IsLine (cut c.args.text.now) (length c.loop-i.yielded) c.in-Some.line.now (line_told c.read_line.result) × (c.in-Some.i ≡ length c.loop-i.yielded)
read c =
    let turn =
    YieldsList-turn
    (YieldsList-from_enumerate
    (YieldsList-at (cc) (YieldsList-from_slice_split {s = c.split.result} _ (λ b. eqb b line_feed) c.args.text.now (cc) (cc) (cc) (λ x b q k. search (rules, tests)))) (cc))
    c.loop-i.yielded _ c.loop-i.yielded_by _ _ (c.in-Some.i, c.in-Some.line) c.in-Some.is c.next.ensures.steps in
    let at = numbered _ _ _ _ turn in
    (record { within = at.0; here = at.2; told = c.read_line.ensures }, at.1)

pub loop-i-init : goal.loop-i-init
loop-i-init c = counts_none _

pub loop-i-preserved-in-Ok-None : goal.loop-i-preserved-in-Ok-None
loop-i-preserved-in-Ok-None c =
    let good : is_bad (line_told c.read_line.result) ≡ false = search rules in
    let none : events_in (line_told c.read_line.result) ≡ [] = search rules in
    counts_line c.loop-i.invariant (read (goal.at.loop-i-preserved-in-Ok-None c).After-read_line).0 good (one_event _) (omega (arith, ap length none)) (length_push _ _)

pub loop-i-preserved : goal.loop-i-preserved
loop-i-preserved c =
    let told : line_told c.read_line.result ≡ One c.in-Ok-Some.field-0-0 = search rules in
    let one = ap (λ l. length (events_in l)) told in
    counts_line c.loop-i.invariant (read (goal.at.loop-i-preserved c).After-read_line).0 (ap is_bad told) (one_event _) (omega (arith, one)) (length_push _ _)

pub returns-in-Err : goal.returns-in-Err
returns-in-Err c =
    let bad : is_bad (line_told c.read_line.result) ≡ true = search rules in
    let at = read (goal.at.returns-in-Err c).After-read_line in
    ap (λ (n : ℕ). Err (BadLine (n + 1))) at.1 ∙ checked_bad_line _ (counts_bad c.loop-i.invariant at.0 bad) (λ none. absurd (omega arith))

pub returns : goal.returns
returns c =
    let end =
    YieldsList-end
    (YieldsList-from_enumerate
    (YieldsList-at (cc) (YieldsList-from_slice_split {s = c.split.result} _ (λ b. eqb b line_feed) c.args.text.now (cc) (cc) (cc) (λ x b q k. search (rules, tests)))) (cc))
    c.loop-i.yielded _ c.loop-i.yielded_by _ _ c.in-None.is c.next.ensures.steps in
    checked_good_lines _ (counts_all c.loop-i.invariant (end.1 ∙ length-enumerate_from 0 (cut c.args.text.now))) refl
