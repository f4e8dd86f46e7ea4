-- That the event fits gives the first operand's range.
use Rattle.std.proofs.Common.{◌≡◌, ◌<◌, true, sym, ltb-true}
use Rattle.terms.proofs.ChooseLaws.{and_passes}
use Rattle.step.specs.Event.{kind_of, ranges_of, fits_event}
use Rattle.step.specs.declared.Event.{Event}
use Rattle.step.specs.declared.Kind.{Kind}
use Rattle.step.specs.declared.Kind.TheVariants.{New, Collect}
use Rattle.step.proofs.steps.by_rule.Goals as goal

-- an event that fits has its first operand in the range of its kind
first_operand : (e : Event) (k : Kind) → kind_of e.kind ≡ k → fits_event e ≡ true → e.a < (ranges_of k).a
unfolding fits_event
first_operand e k is fits = ltb-true _ _ ((and_passes _ _).0 (rw is at fits)).0

pub new-requires : goal.new-requires
new-requires c = first_operand _ New (sym c.in-New.ensures) c.requires

pub collect-requires : goal.collect-requires
collect-requires c = first_operand _ Collect (sym c.in-Collect.ensures) c.requires
