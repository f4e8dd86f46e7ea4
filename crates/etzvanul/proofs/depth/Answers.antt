-- The reader's refusal, or the report of the table that the image tells of.
use Rattle.std.proofs.Common.{◌≡◌, ℕ, ◌*◌, sym, ◌∙◌, arith}
use Rattle.std.proofs.lemmas.Result.{err_from_is_err_and}
use Rattle.terms.specs.Numbers.{ACCEPTED}
use Rattle.table.specs.Depth.{depth_report}
use Rattle.image.proofs.CheckLaws.{answer-check}
use Rattle.image.specs.Reader.{read}
use Rattle.etzvanul.specs.CallLaws.{depth_not, depth_told}
use Rattle.etzvanul.specs.HostCall.{number_of_call}
use Rattle.etzvanul.proofs.Refusals.{refusal_number}
use Rattle.etzvanul.proofs.Slices.{slice_told}
use Rattle.etzvanul.proofs.depth.Goals as goal

pub returns-in_err-check : goal.returns-in_err-check
returns-in_err-check c =
    let a = c.args in
    let is = c.in_err-check.ensures ∙ sym (answer-check a.image.now) in
    let p = err_from_is_err_and c.from_residual.result c.from_residual.ensures.1 in
    rw (p.1, p.2) (is ∙ depth_not a.image.now a.node a.object (λ ok. refusal_number c.in_err-check.field-0.0 (is ∙ ok)))

pub returns : goal.returns
returns c =
    let a = c.args in
    let accepted = answer-check a.image.now ∙ sym c.in_ok-check.ensures in
    let told = slice_told a.image.now c.type_inv.image accepted in
    let plain : (d : ℕ) → number_of_call ACCEPTED d 0 ≡ 256 * d = λ d. omega arith in
    let report = c.unwrap_or-depth.ensures ∙ c.depth_in.ensures.report (read a.image.now).table told in
    rw (c.of.ensures, c.from.ensures, report)
    (plain (depth_report (read a.image.now).table a.node a.object) ∙ depth_told a.image.now a.node a.object accepted)
