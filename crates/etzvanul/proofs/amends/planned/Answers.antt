-- The call that the plan makes: too little room, or the new image.
use Rattle.std.proofs.Common.{ℕ, ap, ◌∙◌, refl, length, arith}
use Rattle.terms.specs.Numbers.{ACCEPTED}
use Rattle.plan.specs.Made.{accepted_plan}
use Rattle.etzvanul.specs.Comes.{call_short, call_done}
use Rattle.etzvanul.specs.HostCall.{number_of_call}
use Rattle.etzvanul.specs.Orderly.{others, new_length, after_most}
use Rattle.etzvanul.specs.Spliced.{new_image}
use Rattle.etzvanul.proofs.amends.planned.Goals as goal

pub returns-then-out-size : goal.returns-then-out-size
returns-then-out-size c =
    let a = c.args in
    let plan = accepted_plan a.plan.now in
    let size = c.length_after-size.ensures ∙ new_length a.n plan a.image.now c.requires.orderly in
    let back = call_short ACCEPTED plan.deed (new_image a.n plan a.image.now) a.out.now refl (omega (arith, size, c.if-out-size.true)) in
    record { number = back.0; bytes = back.1 }

pub put_plan-requires : goal.put_plan-requires
put_plan-requires c =
    let a = c.args in
    let size = c.length_after-size.ensures ∙ new_length a.n (accepted_plan a.plan.now) a.image.now c.requires.orderly in
    (c.requires.orderly, omega (arith, size, c.if-out-size.false))

pub overflow_cast-result : goal.overflow_cast-result
overflow_cast-result c =
    let a = c.args in
    omega (arith, c.length_after-size.ensures, after_most (length a.image.now) (others (accepted_plan a.plan.now)), c.requires.small)

pub returns : goal.returns
returns c =
    let a = c.args in
    let plan = accepted_plan a.plan.now in
    let size = c.length_after-size.ensures ∙ new_length a.n plan a.image.now c.requires.orderly in
    let done = call_done ACCEPTED plan.deed (new_image a.n plan a.image.now) a.out.now refl (omega (arith, size, c.if-out-size.false)) in
    let number =
    ap (λ (v : ℕ). number_of_call ACCEPTED v c.length_after-size.result) c.value.ensures ∙ ap (number_of_call ACCEPTED _) size in
    record { number = number ∙ done.0; bytes = c.put_plan.ensures ∙ done.1 }
