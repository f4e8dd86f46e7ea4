-- The plan of every event but COLLECT is right for the table that the image is of: answer, deed and changes are those of the event's rule.
-- Assumes nothing.
use Rattle.std.specs.Prelude.{◌≡◌, refl, ◌≢◌, true, List, ℕ}
use Rattle.std.proofs.Common.{arith}
use Rattle.laws.specs.Events.DidLaws.{Below}
use Rattle.laws.proofs.Events.DidLaws.{below}
use Rattle.step.specs.declared.Event.{Event}
use Rattle.step.specs.declared.Kind.{Kind}
use Rattle.step.specs.declared.Kind.TheVariants.{New, Move, Clear, Load, Store, Send, Receive, Settle, Collect, Drop, Unknown}
use Rattle.step.specs.Event.{fits_event, kind_of, ranges_of}
use Rattle.step.specs.Outcome.{by}
use Rattle.step.specs.Step.{rule_for, rule_of}
use Rattle.table.specs.declared.Table.{Table}
use Rattle.plan.specs.HeapPlans.{new_planned, move_planned, clear_planned, load_planned, store_planned}
use Rattle.plan.specs.MessagePlans.{send_planned, receive_planned, settle_planned, drop_planned}
use Rattle.plan.specs.Plan.{plan_for, plan_of}
use Rattle.plan.specs.Planned.{Planned}
use Rattle.plan.specs.Told.{Told}

module _ (l : List ℕ) (t : Table) (told : Told l t) (e : Event) where
  -- kind by kind, the operands in their ranges
  kinds : (k : Kind) → Below (ranges_of k) e → k ≢ Collect → Planned l t (by t (rule_for k t e)) (plan_for k l e)
  unfolding rule_for plan_for
  kinds New w other = new_planned l t told e.a e.b w.a
  kinds Move w other = move_planned l t told e.a e.b e.c w.a
  kinds Clear w other = clear_planned l t told e.a e.b w.a
  kinds Load w other = load_planned l t told e.a e.b e.c e.d w.a w.c
  kinds Store w other = store_planned l t told e.a e.b e.c e.d w.a w.b
  kinds Send w other = send_planned l t told e.a e.b e.c w.a w.b w.c
  kinds Receive w other = receive_planned l t told e.a e.b w.a w.b
  kinds Settle w other = settle_planned l t told e.a w.a
  kinds Collect w other = absurd (other refl)
  kinds Drop w other = drop_planned l t told e.a e.b w.a w.b
  kinds Unknown w other = absurd (omega (arith, w.a))

  module _ (fits : fits_event e ≡ true) (other : kind_of e.kind ≢ Collect) where
    pub planned : Planned l t (by t (rule_of t e)) (plan_of l e)
    unfolding fits_event
    planned = rw fits (kinds (kind_of e.kind) (below (ranges_of (kind_of e.kind)) e fits) other)
