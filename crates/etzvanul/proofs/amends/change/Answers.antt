-- The plan of the event is right for the table that the image tells of.
use Rattle.std.proofs.Common.{refl, ◌+◌, arith}
use Rattle.std.proofs.lemmas.Result.{err_from_is_err_and}
use Rattle.terms.specs.Refusals.{number_of}
use Rattle.image.proofs.RoundTrip.{accepted_size}
use Rattle.plan.specs.Made.{accepted_plan}
use Rattle.plan.specs.Plan.{refused_plan}
use Rattle.plan.proofs.Slices.{slice_bytes}
use Rattle.etzvanul.specs.Amended.{change_orderly, change_back}
use Rattle.etzvanul.specs.Comes.{call_not}
use Rattle.etzvanul.specs.Spliced.{new_image}
use Rattle.etzvanul.proofs.Refusals.{refusal_number}
use Rattle.etzvanul.proofs.Slices.{slice_told}
use Rattle.etzvanul.proofs.amends.change.Goals as goal

pub returns-in_err-plan : goal.returns-in_err-plan
returns-in_err-plan c =
    let a = c.args in
    let l = a.image.now in
    let asked = c.requires.asked in
    let told = slice_told l c.type_inv.image asked.accepted in
    let number = number_of c.in_err-plan.field-0.0 in
    let plan = refused_plan number in
    let back = call_not number plan.deed (new_image (a.count + 1) plan l) a.out.now (refusal_number c.in_err-plan.field-0.0) in
    let p = err_from_is_err_and c.from_residual.result c.from_residual.ensures.1 in
    rw (p.1, p.2) (change_back l told a.e a.count asked a.out.now c.requires.other plan c.in_err-plan.ensures number a.out.now back.0 back.1)

pub planned-requires : goal.planned-requires
planned-requires c =
    let a = c.args in
    let l = a.image.now in
    let asked = c.requires.asked in
    let size = accepted_size l (slice_bytes l c.type_inv.image) asked.accepted in
    let told = slice_told l c.type_inv.image asked.accepted in
    record {
      small = omega (arith, size.1);
      orderly = change_orderly l told a.e a.count asked a.out.now c.requires.other (accepted_plan c.in_ok-plan.plan) c.in_ok-plan.ensures refl;
    }

pub returns : goal.returns
returns c =
    let a = c.args in
    let l = a.image.now in
    let asked = c.requires.asked in
    let told = slice_told l c.type_inv.image asked.accepted in
    change_back l told a.e a.count asked a.out.now c.requires.other (accepted_plan c.in_ok-plan.plan) c.in_ok-plan.ensures _ _
    c.planned.ensures.number c.planned.ensures.bytes
