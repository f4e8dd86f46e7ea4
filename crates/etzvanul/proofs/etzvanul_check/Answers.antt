use Rattle.std.proofs.Common.{◌≡◌, sym, ◌∙◌, rules, of_calls}
use Rattle.terms.specs.Refusals.{answer_of}
use Rattle.image.proofs.CheckLaws.{answer-check}
use Rattle.etzvanul.specs.HostCall.{check_number}
use Rattle.etzvanul.specs.Made.{number_made}
use Rattle.etzvanul.proofs.etzvanul_check.Goals as goal

pub returns : goal.returns
unfolding check_number
returns c =
    let told : number_made c.map.result ≡ answer_of c.check.result = search (rules, of_calls) in
    c.number_of.ensures ∙ told ∙ c.check.ensures ∙ sym (answer-check c.args.image.now)
