-- What the call comes to once the image is accepted and the record is an event: the tests that any event meets, and then an answer, a deed and a new
-- image that were found without a table. Assumes nothing.
use Rattle.std.specs.Prelude.{◌≡◌, ◌≢◌, Bool, List, [], ◌∷◌, ℕ, ◌+◌, ◌<◌, ◌≤◌, length, if◌then◌else◌}
use Rattle.std.proofs.Math.Path.{refl}
use Rattle.std.proofs.Common.{sym, ap, ◌∙◌, arith}
use Rattle.std.proofs.Math.Bool.{true, false, not}
use Rattle.std.proofs.Math.Dec.{eqb, ltb}
use borrow.Author.Tests.{eq-eqb, ne_eqb, eqb-true, eqb-false, lt-ltb, le-ltb}
use Rattle.terms.specs.Bytes.{over}
use Rattle.terms.specs.Choose.{◌when◌, answered}
use Rattle.terms.specs.Limits.{EVENTS}
use Rattle.terms.specs.Numbers.{ACCEPTED, EVENT, ENDED, ROOM}
use Rattle.step.specs.Deed.{Deed, Collected}
use Rattle.step.specs.declared.Event.{Event}
use Rattle.step.specs.Outcome.{Outcome, by, refused, value_of}
use Rattle.step.specs.Event.{fits_event}
use Rattle.step.specs.EventRecord.{event_in, is_record}
use Rattle.step.specs.Step.{one_more, rule_of, step}
use Rattle.table.specs.declared.Table.{Table}
use Rattle.table.specs.Shape.{fits_table}
use Rattle.table.specs.Table.{with_count}
use Rattle.image.specs.Reader.{read}
use Rattle.image.specs.Writer.{image}
use Rattle.plan.specs.Change.{Plan, Sweep}
use Rattle.etzvanul.specs.CallLaws.{refusal, success, event_refused, no_room, all_done}
use Rattle.etzvanul.specs.HostCall.{Called, refused_call, done, called, number_of_call, number_in, buffer_in}
use Rattle.etzvanul.specs.Spliced.{new_image, swept_image}

-- answer, deed and new image are those of what the event's rule comes to on the table, its count not yet taken
pub record Comes (t : Table) (o : Outcome) (answer : ℕ) (deed : Deed) (new : List ℕ) : Type 0 where
  pub answered : answer ≡ o.answer
  pub did : answer ≡ ACCEPTED → deed ≡ o.deed
  pub made : answer ≡ ACCEPTED → new ≡ image (with_count o.table (t.count + 1))

-- the call that they make: refused with the answer, or with ROOM, or done
unfoldable pub call_of : ℕ → Deed → List ℕ → List ℕ → Called
call_of answer deed new out =
    answered refused_call ((answer when not (eqb answer ACCEPTED)) ∷ (ROOM when ltb (length out) (length new)) ∷ []) (done (value_of deed) new)

-- of a plan, and of a COLLECT at node p; n is the event count after the event
abbrev pub plan_call : ℕ → Plan → List ℕ → List ℕ → Called
plan_call n plan l out = call_of plan.answer plan.deed (new_image n plan l) out

abbrev pub sweep_call : ℕ → ℕ → Sweep → List ℕ → List ℕ → Called
sweep_call n p s l out = call_of s.answer (Collected s.reclaimed) (swept_image n l p s) out

-- what comes back of it, case by case
module _ (answer : ℕ) (deed : Deed) (new out : List ℕ) where
  abbrev Back : ℕ → List ℕ → Type 0
  Back number buffer = (number ≡ number_in (call_of answer deed new out)) × (buffer ≡ buffer_in (call_of answer deed new out) out)

  pub call_not : answer ≢ ACCEPTED → Back answer out
  unfolding call_of
  call_not other = refusal (call_of answer deed new out) out answer (rw (ne_eqb answer ACCEPTED other))

  module _ (ok : answer ≡ ACCEPTED) where
    pub call_short : length out < length new → Back ROOM out
    unfolding call_of
    call_short short = refusal (call_of answer deed new out) out ROOM (rw (eq-eqb answer ACCEPTED ok, lt-ltb (length out) (length new) short))

    pub call_done : length new ≤ length out → Back (number_of_call ACCEPTED (value_of deed) (length new)) (over new out)
    unfolding call_of
    call_done room =
        success (call_of answer deed new out) out (value_of deed) new (rw (eq-eqb answer ACCEPTED ok, le-ltb (length out) (length new) room))

module _ (old event out : List ℕ) (accepted : (read old).answer ≡ ACCEPTED) (whole : is_record event ≡ true)
    (shape : fits_table (read old).table ≡ true) where
  abbrev t : Table
  t = (read old).table

  abbrev e : Event
  e = event_in event

  -- a step that is refused refuses the call
  refuses : (number : ℕ) → number ≢ ACCEPTED → step t e ≡ refused t number → called old event out ≡ refused_call number
  refuses number other is =
      let answer : (step t e).answer ≡ number = ap (λ (o : Outcome). o.answer) is in
      event_refused old event out accepted whole (λ ok. other (sym answer ∙ ok)) ∙ ap refused_call answer

  -- no event, or operands out of their ranges
  pub unfit : fits_event e ≡ false → called old event out ≡ refused_call EVENT
  unfolding step
  unfit other = refuses EVENT (λ is. absurd (omega arith)) (rw (shape, other))

  module _ (fits : fits_event e ≡ true) where
    -- the field has taken all its events
    pub ended : ltb t.count EVENTS ≡ false → called old event out ≡ refused_call ENDED
    unfolding step
    ended over = refuses ENDED (λ is. absurd (omega arith)) (rw (shape, fits, over))

    module _ (more : ltb t.count EVENTS ≡ true) {answer : ℕ} {deed : Deed} {new : List ℕ} (c : Comes t (by t (rule_of t e)) answer deed new) where
      abbrev o : Outcome
      o = by t (rule_of t e)

      stepped : step t e ≡ one_more t.count o
      unfolding step
      stepped = rw (shape, fits, more)

      -- its own refusal
      comes_not : answer ≢ ACCEPTED → called old event out ≡ refused_call answer
      comes_not other =
          let is : (step t e).answer ≡ answer =
          ap (λ (x : Outcome). x.answer) stepped ∙ rw (ne_eqb o.answer ACCEPTED (λ ok. other (c.answered ∙ ok))) (sym c.answered) in
          event_refused old event out accepted whole (λ ok. other (sym is ∙ ok)) ∙ ap refused_call is

      module _ (ok : answer ≡ ACCEPTED) where
        taken : o.answer ≡ ACCEPTED
        taken = sym c.answered ∙ ok

        becomes : step t e ≡ record { answer = o.answer; deed = o.deed; table = with_count o.table (t.count + 1) }
        becomes = stepped ∙ rw (eq-eqb o.answer ACCEPTED taken)

        accepts : (step t e).answer ≡ ACCEPTED
        accepts = ap (λ (x : Outcome). x.answer) becomes ∙ taken

        writes : image (step t e).table ≡ new
        writes = ap (λ (x : Outcome). image x.table) becomes ∙ sym (c.made ok)

        -- the buffer is too short, or has the new image
        comes_on : (b : Bool) → ltb (length out) (length new) ≡ b
            → called old event out ≡ (if b then refused_call ROOM else done (value_of deed) new)
        comes_on true short = no_room old event out accepted whole accepts (rw writes short)
        comes_on false room =
            all_done old event out accepted whole accepts (rw writes room)
            ∙ ap (done (value_of (step t e).deed)) writes
            ∙ ap (λ (d : Deed). done (value_of d) new) (ap (λ (x : Outcome). x.deed) becomes ∙ sym (c.did ok))

      -- so it is the call that they make
      pub comes : called old event out ≡ call_of answer deed new out
      unfolding call_of
      comes = go (eqb answer ACCEPTED) refl
        where
          go : (b : Bool) → eqb answer ACCEPTED ≡ b
              → called old event out
              ≡ (if not b then refused_call answer else (if ltb (length out) (length new) then refused_call ROOM else done (value_of deed) new))
          go true ok = comes_on (eqb-true answer ACCEPTED ok) (ltb (length out) (length new)) refl
          go false other = comes_not (eqb-false answer ACCEPTED other)
