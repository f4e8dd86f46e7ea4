use Rattle.std.proofs.Common.{refl, sym, ap, ◌∙◌, arith, eq-eqb, ne_eqb}
use Rattle.terms.proofs.CountedLaws.{lowest_from_fails, lowest_from_none, lowest_from_passes}
use Rattle.image.specs.declared.Found.{Found}
use Rattle.splice.proofs.Resumed.{found_on, from_found, from_start}
use Rattle.plan.specs.Plan.{empty_place_in}
use Rattle.plan.proofs.Slices.{slice_bytes}
use Rattle.plan.proofs.message_plans.empty_place.Goals as goal

pub loop-s-init : goal.loop-s-init
unfolding empty_place_in
loop-s-init c = record { scan = from_start _ _; rest = refl }

pub returns-then-found : goal.returns-then-found
returns-then-found c =
    let there = found_on _ c.loop-s.invariant.scan c.message_from-found.ensures in
    let ends = sym (ap (λ (f : Found). f.at) there) ∙ c.if-found.true ∙ ap (λ (f : Found). f.after) there in
    let lowest = c.loop-s.invariant.rest ∙ lowest_from_passes c.loop-s-test.true _ (eq-eqb _ _ ends) in
    (c.loop-s-test.true, sym lowest, there)

pub loop-s-preserved : goal.loop-s-preserved
loop-s-preserved c =
    let there = found_on _ c.loop-s.invariant.scan c.message_from-found.ensures in
    let apart = ne_eqb _ _ (λ e. c.if-found.false (ap (λ (f : Found). f.at) there ∙ e ∙ sym (ap (λ (f : Found). f.after) there))) in
    record {
      scan = from_found _ (slice_bytes c.args.l.now c.type_inv.l) _ _ there _ (omega arith);
      rest = c.loop-s.invariant.rest ∙ lowest_from_fails c.loop-s-test.true _ apart;
    }

pub returns : goal.returns
returns c = c.loop-s.invariant.rest ∙ lowest_from_none c.loop-s-test.false _ ∙ omega (arith, c.loop-s.auto.s-end, c.loop-s-test.false)
