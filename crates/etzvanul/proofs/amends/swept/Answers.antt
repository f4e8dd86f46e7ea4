-- The call that a COLLECT makes: too little room, or the new image.
use Rattle.std.proofs.Common.{ap, ◌∙◌, refl, arith}
use Rattle.terms.specs.Numbers.{ACCEPTED}
use Rattle.step.specs.Deed.{Collected}
use Rattle.plan.specs.Made.{accepted_sweep}
use Rattle.etzvanul.specs.Comes.{call_short, call_done}
use Rattle.etzvanul.specs.HostCall.{number_of_call}
use Rattle.etzvanul.specs.Spliced.{swept_image}
use Rattle.etzvanul.specs.SweptLength.{swept_most}
use Rattle.etzvanul.proofs.amends.swept.Goals as goal

pub returns-then-out-size : goal.returns-then-out-size
returns-then-out-size c =
    let a = c.args in
    let s = accepted_sweep a.s.now in
    let size = c.swept_length-size.ensures a.n in
    let back =
    call_short ACCEPTED (Collected s.reclaimed) (swept_image a.n a.image.now a.s.now.node s) a.out.now refl (omega (arith, size, c.if-out-size.true)) in
    record { number = back.0; bytes = back.1 }

pub overflow_cast-result : goal.overflow_cast-result
overflow_cast-result c =
    let a = c.args in
    let most = swept_most a.n a.image.now a.s.now.node (accepted_sweep a.s.now) c.requires.orderly in
    omega (arith, c.swept_length-size.ensures a.n, most, c.requires.small)

pub returns : goal.returns
returns c =
    let a = c.args in
    let s = accepted_sweep a.s.now in
    let size = c.swept_length-size.ensures a.n in
    let done =
    call_done ACCEPTED (Collected s.reclaimed) (swept_image a.n a.image.now a.s.now.node s) a.out.now refl (omega (arith, size, c.if-out-size.false)) in
    record { number = ap (number_of_call ACCEPTED s.reclaimed) size ∙ done.0; bytes = c.put_sweep.ensures ∙ done.1 }
