-- Each return is one case of the definition, in its order.
use Rattle.std.proofs.Common.{sym, ap, ◌∙◌}
use Rattle.std.proofs.lemmas.Result.{err_from_is_err_and}
use Rattle.terms.specs.Refusals.{number_of}
use Rattle.image.proofs.CheckLaws.{answer-check}
use Rattle.etzvanul.specs.CallLaws.{refusal, image_refused, not_a_record}
use Rattle.etzvanul.specs.HostCall.{refused_call, called, host_number, host_bytes}
use Rattle.etzvanul.proofs.Refusals.{refusal_number}
use Rattle.etzvanul.proofs.step.Goals as goal

pub returns-in_err-check : goal.returns-in_err-check
unfolding host_number host_bytes
returns-in_err-check c =
    let a = c.args in
    let r = c.in_err-check.field-0.0 in
    let is = c.in_err-check.ensures ∙ sym (answer-check a.image.now) in
    let back =
    refusal (called a.image.now a.event.now a.out.now) a.out.now (number_of r)
    (image_refused a.image.now a.event.now a.out.now (λ ok. refusal_number r (is ∙ ok)) ∙ ap refused_call (sym is)) in
    let p = err_from_is_err_and c.from_residual.result c.from_residual.ensures.1 in
    rw (p.1, p.2) (record { number = back.0; bytes = back.1 })

pub returns-then-not-is_record : goal.returns-then-not-is_record
unfolding host_number host_bytes
returns-then-not-is_record c =
    let a = c.args in
    let accepted = answer-check a.image.now ∙ sym c.in_ok-check.ensures in
    let back =
    refusal (called a.image.now a.event.now a.out.now) a.out.now _
    (not_a_record a.image.now a.event.now a.out.now accepted (sym c.is_record.ensures ∙ c.if-not-is_record.true)) in
    record { number = back.0; bytes = back.1 }

pub amend-requires : goal.amend-requires
amend-requires c = answer-check c.args.image.now ∙ sym c.in_ok-check.ensures
