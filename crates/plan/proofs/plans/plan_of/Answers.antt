-- That the event fits gives NEW's node.
use Rattle.std.proofs.Common.{◌≡◌, sym, ◌∙◌, true}
use Rattle.laws.proofs.Events.DidLaws.{below}
use Rattle.step.specs.declared.Kind.TheVariants.{New}
use Rattle.step.specs.Event.{fits_event, ranges_of}
use Rattle.plan.proofs.plans.plan_of.Goals as goal

pub plan_for-requires : goal.plan_for-requires
unfolding fits_event
plan_for-requires c = λ new.
    let fits : fits_event c.args.e ≡ true = sym c.fits.ensures ∙ c.if-not-fits.false in
    (below (ranges_of New) c.args.e (rw (sym c.from.ensures ∙ new) at fits)).a
