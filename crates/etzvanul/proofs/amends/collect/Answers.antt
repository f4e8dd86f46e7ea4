-- What COLLECT comes to is right for the table that the image tells of.
use Rattle.std.proofs.Common.{refl, ◌+◌, arith}
use Rattle.std.proofs.lemmas.Result.{err_from_is_err_and}
use Rattle.terms.specs.Refusals.{number_of}
use Rattle.image.specs.Reader.{read}
use Rattle.image.proofs.RoundTrip.{accepted_size}
use Rattle.step.specs.Deed.{Collected}
use Rattle.plan.specs.Made.{accepted_sweep}
use Rattle.plan.specs.Sweep.{refused_sweep}
use Rattle.plan.proofs.Slices.{slice_bytes}
use Rattle.etzvanul.specs.Amended.{collect_node, collect_orderly, collect_back}
use Rattle.etzvanul.specs.Comes.{call_not}
use Rattle.etzvanul.specs.Spliced.{swept_image}
use Rattle.etzvanul.specs.SweepOnward.{resumes}
use Rattle.etzvanul.proofs.Refusals.{refusal_number}
use Rattle.etzvanul.proofs.Slices.{slice_told}
use Rattle.etzvanul.proofs.amends.collect.Goals as goal

pub returns-in_err-s : goal.returns-in_err-s
returns-in_err-s c =
    let a = c.args in
    let l = a.image.now in
    let asked = c.requires.asked in
    let told = slice_told l c.type_inv.image asked.accepted in
    let number = number_of c.in_err-s.field-0.0 in
    let s = refused_sweep number in
    let back =
    call_not number (Collected s.reclaimed) (swept_image (a.count + 1) l a.e.a s) a.out.now (refusal_number c.in_err-s.field-0.0) in
    let p = err_from_is_err_and c.from_residual.result c.from_residual.ensures.1 in
    rw (p.1, p.2) (collect_back l told a.e a.count asked a.out.now c.requires.kind s c.in_err-s.ensures.sweep number a.out.now back.0 back.1)

pub swept-requires : goal.swept-requires
swept-requires c =
    let a = c.args in
    let l = a.image.now in
    let asked = c.requires.asked in
    let are = slice_bytes l c.type_inv.image in
    let size = accepted_size l are asked.accepted in
    let told = slice_told l c.type_inv.image asked.accepted in
    let node = collect_node l told a.e a.count asked a.out.now c.requires.kind in
    let s = accepted_sweep c.in_ok-s.s in
    record {
      small = omega (arith, size.1);
      orderly = rw c.in_ok-s.ensures.node (collect_orderly l told a.e a.count asked a.out.now c.requires.kind s c.in_ok-s.ensures.sweep refl);
      resumes = rw c.in_ok-s.ensures.node (resumes l are (read l).table told a.e.a node s c.in_ok-s.ensures.sweep);
    }

pub returns : goal.returns
returns c =
    let a = c.args in
    let l = a.image.now in
    let asked = c.requires.asked in
    let told = slice_told l c.type_inv.image asked.accepted in
    collect_back l told a.e a.count asked a.out.now c.requires.kind (accepted_sweep c.in_ok-s.s) c.in_ok-s.ensures.sweep _ _
    (rw c.in_ok-s.ensures.node at c.swept.ensures.number) (rw c.in_ok-s.ensures.node at c.swept.ensures.bytes)
