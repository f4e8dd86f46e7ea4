-- What an event comes to on an accepted image is what the host call promises, for every record of that event. Assumes nothing.
use Rattle.std.specs.Prelude.{◌≡◌, ◌≢◌, false, ℕ, ◌+◌, ◌<◌, ◌≤◌, length}
use Rattle.std.proofs.Common.{sym, ◌∙◌, arith, lt-ltb, le-ltb}
use Rattle.std.proofs.Math.Path.{ap, subst}
use Rattle.std.proofs.Math.Bool.{true}
use mathlib.Core.List.{List}
use Rattle.terms.specs.Limits.{EVENTS, NODES}
use Rattle.terms.specs.Numbers.{ACCEPTED, EVENT, ENDED}
use Rattle.laws.proofs.Events.DidLaws.{below}
use Rattle.step.specs.Deed.{Deed, Collected}
use Rattle.step.specs.declared.Event.{Event}
use Rattle.step.specs.declared.Kind.TheVariants.{Collect}
use Rattle.step.specs.Collect.{collect}
use Rattle.step.specs.Event.{fits_event, kind_of, ranges_of}
use Rattle.step.specs.EventRecord.{event_in, is_record}
use Rattle.step.specs.Outcome.{by}
use Rattle.step.specs.Step.{rule_for, rule_of}
use Rattle.table.specs.declared.Table.{Table}
use Rattle.table.specs.Shape.{fits_table}
use Rattle.image.specs.Reader.{read}
use Rattle.etzvanul.specs.CallLaws.{refusal}
use Rattle.etzvanul.specs.Comes.{Comes, call_of, plan_call, sweep_call, comes, unfit, ended}
use Rattle.etzvanul.specs.HostCall.{called, number_in, buffer_in, host_number, host_bytes}
use Rattle.plan.specs.Change.{Plan, Sweep}
use Rattle.etzvanul.specs.Orderly.{Orderly}
use Rattle.etzvanul.specs.OrderlyLaws.{planned_orderly, sweep_orderly}
use Rattle.plan.specs.Plan.{changes_of, plan_of}
use Rattle.plan.specs.Plans.{planned}
use Rattle.plan.specs.Sweep.{sweep_of, sweep_changes}
use Rattle.plan.specs.SweepLaws.{sweep_answer, sweep_deed}
use Rattle.plan.specs.Told.{Told}
use Rattle.etzvanul.specs.Spliced.{new_image, swept_image}
use Rattle.etzvanul.specs.SplicedLaws.{planned_image, swept_image_lem}

-- number and buffer are those of the host call for every record of event e
pub record Back (old : List ℕ) (e : Event) (out : List ℕ) (back : ℕ) (buffer : List ℕ) : Type 0 where
  pub number : (event : List ℕ) → is_record event ≡ true → event_in event ≡ e → back ≡ host_number old event out
  pub bytes : (event : List ℕ) → is_record event ≡ true → event_in event ≡ e → buffer ≡ host_bytes old event out

module _ (old : List ℕ) (e : Event) (out : List ℕ) (accepted : (read old).answer ≡ ACCEPTED) (shape : fits_table (read old).table ≡ true) where
  abbrev t : Table
  t = (read old).table

  -- a refusal of every such call
  refused_back : (k : ℕ)
      → ((event : List ℕ) → is_record event ≡ true → event_in event ≡ e
      → (k ≡ number_in (called old event out)) × (out ≡ buffer_in (called old event out) out))
      → Back old e out k out
  unfolding host_number host_bytes
  refused_back k is = record {
    number = λ event whole same. (is event whole same).0;
    bytes = λ event whole same. (is event whole same).1;
  }

  pub unfit_back : fits_event e ≡ false → Back old e out EVENT out
  unfit_back other =
      refused_back EVENT (λ event whole same.
      refusal (called old event out) out EVENT (unfit old event out accepted whole shape (ap fits_event same ∙ other)))

  module _ (fits : fits_event e ≡ true) where
    pub ended_back : EVENTS ≤ t.count → Back old e out ENDED out
    ended_back over =
        refused_back ENDED (λ event whole same.
        refusal (called old event out) out ENDED
        (ended old event out accepted whole shape (ap fits_event same ∙ fits) (le-ltb t.count EVENTS over)))

    -- the call that an answer, a deed and a new image make
    pub comes_back : t.count < EVENTS → (answer : ℕ) (deed : Deed) (new : List ℕ) → Comes t (by t (rule_of t e)) answer deed new
        → Back old e out (number_in (call_of answer deed new out)) (buffer_in (call_of answer deed new out) out)
    unfolding host_number host_bytes
    comes_back more answer deed new c =
        let is : (event : List ℕ) → is_record event ≡ true → event_in event ≡ e → called old event out ≡ call_of answer deed new out =
        λ event whole same.
        comes old event out accepted whole shape (ap fits_event same ∙ fits) (lt-ltb t.count EVENTS more)
        (subst (λ (x : Event). Comes t (by t (rule_of t x)) answer deed new) (sym same) c) in
        record {
          number = λ event whole same. ap number_in (sym (is event whole same));
          bytes = λ event whole same. ap (λ x. buffer_in x out) (sym (is event whole same));
        }

-- ---- of an image that tells of its table

-- answer, deed and new image of a plan, and of COLLECT at node p
module _ (l : List ℕ) (t : Table) (told : Told l t) where
  pub plan_comes : (e : Event) → fits_event e ≡ true → kind_of e.kind ≢ Collect
      → Comes t (by t (rule_of t e)) (plan_of l e).answer (plan_of l e).deed (new_image (t.count + 1) (plan_of l e) l)
  plan_comes e fits other =
      let right = planned l t told e fits other in
      record { answered = right.answer; did = λ ok. right.deed; made = λ ok. planned_image told right ok }

  pub sweep_comes : (p : ℕ) → p < NODES
      → Comes t (by t (collect t p)) (sweep_of l p).answer (Collected (sweep_of l p).reclaimed) (swept_image (t.count + 1) l p (sweep_of l p))
  sweep_comes p lp = record {
    answered = sweep_answer l t told p lp;
    did = λ ok. sym (sweep_deed l t told p lp ok);
    made = λ ok. swept_image_lem told p lp ok;
  }

-- an event that any event's tests have let pass, and the event count of the image
pub record Asked (l : List ℕ) (e : Event) (count : ℕ) : Type 0 where
  pub accepted : (read l).answer ≡ ACCEPTED
  pub fits : fits_event e ≡ true
  pub counted : count ≡ (read l).table.count
  pub more : count < EVENTS

module _ (l : List ℕ) (told : Told l (read l).table) (e : Event) (count : ℕ) (asked : Asked l e count) (out : List ℕ) where
  -- what comes of it, comes back
  asked_back : (answer : ℕ) (deed : Deed) (new : List ℕ) → Comes (read l).table (by (read l).table (rule_of (read l).table e)) answer deed new
      → Back l e out (number_in (call_of answer deed new out)) (buffer_in (call_of answer deed new out) out)
  asked_back = comes_back l e out asked.accepted told.fits asked.fits (omega (arith, asked.counted, asked.more))

  -- every event but COLLECT
  module _ (other : kind_of e.kind ≢ Collect) (plan : Plan) (is : plan ≡ plan_of l e) where
    pub change_orderly : plan.answer ≡ ACCEPTED → Orderly 0 (changes_of (count + 1) plan) (length l)
    change_orderly =
        subst (λ (x : Plan). x.answer ≡ ACCEPTED → Orderly 0 (changes_of (count + 1) x) (length l)) (sym is)
        (planned_orderly told (planned l (read l).table told e asked.fits other))

    pub change_back : (number : ℕ) (buffer : List ℕ)
        → number ≡ number_in (plan_call (count + 1) plan l out) → buffer ≡ buffer_in (plan_call (count + 1) plan l out) out
        → Back l e out number buffer
    change_back number buffer n b =
        rw (n, b, is, asked.counted)
        (asked_back (plan_of l e).answer (plan_of l e).deed _ (plan_comes l (read l).table told e asked.fits other))

  -- COLLECT
  module _ (kind : kind_of e.kind ≡ Collect) where
    pub collect_node : e.a < NODES
    unfolding fits_event
    collect_node = (below (ranges_of Collect) e (rw kind at asked.fits)).a

    module _ (s : Sweep) (is : s ≡ sweep_of l e.a) where
      pub collect_orderly : s.answer ≡ ACCEPTED → Orderly 0 (sweep_changes (count + 1) l e.a s) (length l)
      unfolding sweep_changes
      collect_orderly =
          subst (λ (x : Sweep). x.answer ≡ ACCEPTED → Orderly 0 (sweep_changes (count + 1) l e.a x) (length l)) (sym is)
          (sweep_orderly told e.a collect_node)

      pub collect_back : (number : ℕ) (buffer : List ℕ)
          → number ≡ number_in (sweep_call (count + 1) e.a s l out) → buffer ≡ buffer_in (sweep_call (count + 1) e.a s l out) out
          → Back l e out number buffer
      unfolding rule_for
      collect_back number buffer n b =
          rw (n, b, is, asked.counted)
          (asked_back (sweep_of l e.a).answer (Collected (sweep_of l e.a).reclaimed) _
          (rw kind (sweep_comes l (read l).table told e.a collect_node)))
