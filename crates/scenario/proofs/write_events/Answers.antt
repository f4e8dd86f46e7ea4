use Rattle.std.proofs.Common.{sym, ap, ◌∙◌, Ok}
use Rattle.std.proofs.lemmas.Result.{err_from_is_err_and}
use Rattle.scenario.specs.Records.{answer_of, written_of, buffer_of}
use Rattle.scenario.proofs.MeaningLaws.{refused_answer, refused_buffer, short_answer, short_buffer, they_fit, full_answer, full_buffer}
use Rattle.scenario.proofs.write_events.Goals as goal

pub returns-in_err-events-clause-value : goal.returns-in_err-events-clause-value
unfolding written_of
returns-in_err-events-clause-value c =
    let e = err_from_is_err_and c.from_residual.result c.from_residual.ensures.1 in
    rw (e.1, e.2) (refused_answer _ _ _ (sym c.in_err-events.was ∙ c.check.ensures))

pub returns-in_err-events-clause-out_after : goal.returns-in_err-events-clause-out_after
unfolding buffer_of
returns-in_err-events-clause-out_after c = refused_buffer _ _ _ (sym c.in_err-events.was ∙ c.check.ensures)

pub returns-then-out-events-clause-value : goal.returns-then-out-events-clause-value
returns-then-out-events-clause-value c = short_answer _ (sym c.in_ok-events.was ∙ c.check.ensures) _ c.if-out-events.true

pub returns-then-out-events-clause-out_after : goal.returns-then-out-events-clause-out_after
returns-then-out-events-clause-out_after c = short_buffer _ (sym c.in_ok-events.was ∙ c.check.ensures) _ c.if-out-events.true

pub put_all-requires : goal.put_all-requires
put_all-requires c = they_fit _ (sym c.in_ok-events.was ∙ c.check.ensures) _ c.if-out-events.false

pub returns-clause-value : goal.returns-clause-value
returns-clause-value c = ap (λ n. answer_of (Ok n)) c.put_all.ensures.value ∙ full_answer _ (sym c.in_ok-events.was ∙ c.check.ensures) _ c.if-out-events.false

pub returns-clause-out_after : goal.returns-clause-out_after
returns-clause-out_after c = c.put_all.ensures.out_after ∙ full_buffer _ (sym c.in_ok-events.was ∙ c.check.ensures) _ c.if-out-events.false
