-- What an accepted event tells of its refusals: none of them applies, for each has a number and "accepted" is none. And what a refused
-- event leaves: the table as it was. Assumes nothing.
use Rattle.std.specs.Prelude.{◌≡◌, ◌≢◌, Bool, true, false, not, List, [], ◌∷◌, ℕ, ◌+◌, ◌<◌, ltb, eqb, if◌then◌else◌}
use Rattle.std.proofs.Math.Path.{refl}
use Rattle.std.proofs.Common.{sym, ap, ◌∙◌, true≢false, ltb-true, eq-eqb, eqb-true}
use Rattle.std.proofs.lemmas.Bool.{not-true, not-false}
use Rattle.terms.specs.Choose.{Refusal, ◌and◌, answered}
use Rattle.terms.proofs.ChooseLaws.{and_passes}
use Rattle.terms.specs.Limits.{EVENTS}
use Rattle.terms.specs.Numbers.{ACCEPTED}
use Rattle.entry.specs.declared.Entry.{Entry}
use Rattle.entry.specs.declared.Entry.TheVariants.{Absent, AtOwner, Elsewhere}
use Rattle.table.specs.declared.Message.{Message}
use Rattle.table.specs.declared.Message.TheVariants.{Empty, Reference, Decrement}
use Rattle.table.specs.declared.Table.{Table}
use Rattle.table.specs.Shape.{fits_table}
use Rattle.table.specs.Table.{entry_at, message_at, with_count}
use Rattle.step.specs.declared.Event.{Event}
use Rattle.step.specs.declared.Kind.{Kind}
use Rattle.step.specs.declared.Kind.TheVariants.{New, Move, Clear, Load, Store, Send, Receive, Settle, Collect, Drop, Unknown}
use Rattle.step.specs.Outcome.{Outcome}
use Rattle.step.specs.Clear.{clear}
use Rattle.step.specs.Collect.{collect_holding, collect_keeping}
use Rattle.step.specs.Drop.{drop_of}
use Rattle.step.specs.Event.{kind_of, fits_event}
use Rattle.step.specs.Load.{load}
use Rattle.step.specs.Move.{move}
use Rattle.step.specs.New.{new}
use Rattle.step.specs.Outcome.{Rule, by, is_accepted, refused}
use Rattle.step.specs.Receive.{receive_of}
use Rattle.step.specs.Send.{send}
use Rattle.step.specs.Settle.{settle_of}
use Rattle.step.specs.Step.{common, one_more, rule_for, rule_of, step}
use Rattle.step.specs.Store.{store}
use Rattle.laws.specs.Events.Answered.{counting}

-- ---- a list of refusals

-- each has a number of its own, and not that of "accepted"
abbrev pub numbered : List Refusal → Bool
numbered [] = true
numbered (r ∷ rs) = not (eqb r.number ACCEPTED) and numbered rs

-- none of them applies
abbrev pub NoneApplies : List Refusal → Type 0
NoneApplies [] = Unit {0}
NoneApplies (r ∷ rs) = (r.applies ≡ false) × NoneApplies rs

module _ (t : Table) where
  -- accepted past a list of refusals: none of them applies, and what comes is the effect
  pub none_applies : (rs : List Refusal) (x : Outcome) → numbered rs ≡ true → (answered (refused t) rs x).answer ≡ ACCEPTED
      → NoneApplies rs × (answered (refused t) rs x ≡ x)
  none_applies [] x n e = (tt, refl)
  none_applies (r ∷ rs) x n e =
      let both = (and_passes (not (eqb r.number ACCEPTED)) (numbered rs)).0 n in
      go r.applies refl both.0 (none_applies rs x both.1) e
    where
      go : (b : Bool) → r.applies ≡ b → not (eqb r.number ACCEPTED) ≡ true
          → ((answered (refused t) rs x).answer ≡ ACCEPTED → NoneApplies rs × (answered (refused t) rs x ≡ x))
          → (if b then refused t r.number else answered (refused t) rs x).answer ≡ ACCEPTED
          → ((r.applies ≡ false) × NoneApplies rs) × ((if b then refused t r.number else answered (refused t) rs x) ≡ x)
      go true a own rest e = absurd (true≢false (sym (eq-eqb r.number ACCEPTED e) ∙ not-true (eqb r.number ACCEPTED) own))
      go false a own rest e = let later = rest e in ((a, later.0), later.1)

  -- refused past a list of refusals: the table stays, if a refused effect leaves it
  pub refused_past : (rs : List Refusal) (x : Outcome) → (x.answer ≢ ACCEPTED → x.table ≡ t)
      → (answered (refused t) rs x).answer ≢ ACCEPTED → (answered (refused t) rs x).table ≡ t
  refused_past [] x leaves ne = leaves ne
  refused_past (r ∷ rs) x leaves ne = go r.applies (refused_past rs x leaves) ne
    where
      go : (b : Bool) → ((answered (refused t) rs x).answer ≢ ACCEPTED → (answered (refused t) rs x).table ≡ t)
          → (if b then refused t r.number else answered (refused t) rs x).answer ≢ ACCEPTED
          → (if b then refused t r.number else answered (refused t) rs x).table ≡ t
      go true rest ne = refl
      go false rest ne = rest ne

-- what every accepted event has met
pub record Met (t : Table) (e : Event) : Type 0 where
  pub shape : fits_table t ≡ true
  pub operands : fits_event e ≡ true
  pub before_end : t.count < EVENTS

-- and what its rule says of it
pub record Done (t : Table) (e : Event) (rule : Rule) : Type 0 where
  pub free : NoneApplies rule.refusals
  pub after : (step t e).table ≡ counting t rule.effect.table

-- counting changes no answer
pub counted_answer : (n : ℕ) (x : Outcome) → (one_more n x).answer ≡ x.answer
counted_answer n x = go (is_accepted x)
  where
    go : (b : Bool) → (if b then record { answer = x.answer; deed = x.deed; table = with_count x.table (n + 1) } else x).answer ≡ x.answer
    go true = refl
    go false = refl

-- the whole of a step that is accepted: past the common refusals, and counted
module _ (t : Table) (e : Event) (accepted : (step t e).answer ≡ ACCEPTED) where
  past_common : NoneApplies (common t e) × (step t e ≡ one_more t.count (by t (rule_of t e)))
  unfolding step
  past_common = none_applies t (common t e) (one_more t.count (by t (rule_of t e))) refl accepted

  -- the shape, the operands and the count were in order
  pub met : Met t e
  met =
      let none = past_common.0 in
      record {
        shape = not-false (fits_table t) none.0;
        operands = not-false (fits_event e) none.1.0;
        before_end = ltb-true t.count EVENTS (not-false (ltb t.count EVENTS) none.1.1.0);
      }

  rule_answer : (by t (rule_of t e)).answer ≡ ACCEPTED
  rule_answer = sym (counted_answer t.count (by t (rule_of t e))) ∙ sym (ap (λ (x : Outcome). x.answer) past_common.1) ∙ accepted

  -- none of its rule's refusals applied, and the rule's effect was counted
  pub done : numbered (rule_of t e).refusals ≡ true → Done t e (rule_of t e)
  done n =
      let past = none_applies t (rule_of t e).refusals (rule_of t e).effect n rule_answer in
      let by_effect = past.1 in
      record {
        free = past.0;
        after =
            ap (λ (x : Outcome). x.table) past_common.1 ∙ counts (by t (rule_of t e)) rule_answer
            ∙ ap (λ (x : Outcome). counting t x.table) by_effect;
      }
    where
      counts : (x : Outcome) → x.answer ≡ ACCEPTED → (one_more t.count x).table ≡ counting t x.table
      counts x a = rw (eq-eqb x.answer ACCEPTED a)

-- ---- a refused event

-- a rule whose effect refuses leaves the table
abbrev LeavesRefused : Table → Rule → Type 0
LeavesRefused t rule = rule.effect.answer ≢ ACCEPTED → rule.effect.table ≡ t

-- every rule does: its effect is done, or refused
receive_leaves : (t : Table) (s r : ℕ) (m : Message) → LeavesRefused t (receive_of t s r m)
unfolding receive_of
receive_leaves t s r Empty ne = refl
receive_leaves t s r (Reference from to o) ne = absurd (ne refl)
receive_leaves t s r (Decrement from to o m n) ne = refl

-- SETTLE is refused outright for an empty place or a reference
settle_leaves : (t : Table) (s : ℕ) (m : Message) → LeavesRefused t (settle_of t s m)
unfolding settle_of
settle_leaves t s Empty ne = refl
settle_leaves t s (Reference from to o) ne = refl
settle_leaves t s (Decrement from to o m n) ne = absurd (ne refl)

-- DROP is refused outright where no entry stands
drop_leaves : (t : Table) (p o : ℕ) (e : Entry) → LeavesRefused t (drop_of t p o e)
unfolding drop_of
drop_leaves t p o Absent ne = refl
drop_leaves t p o (AtOwner d) ne = absurd (ne refl)
drop_leaves t p o (Elsewhere e) ne = absurd (ne refl)

-- whichever the kind
rule_leaves : (t : Table) (e : Event) (k : Kind) → LeavesRefused t (rule_for k t e)
unfolding rule_for new move clear load store send collect_keeping collect_holding
rule_leaves t e New ne = absurd (ne refl)
rule_leaves t e Move ne = absurd (ne refl)
rule_leaves t e Clear ne = absurd (ne refl)
rule_leaves t e Load ne = absurd (ne refl)
rule_leaves t e Store ne = absurd (ne refl)
rule_leaves t e Send ne = absurd (ne refl)
rule_leaves t e Receive ne = receive_leaves t e.a e.b (message_at t e.a) ne
rule_leaves t e Settle ne = settle_leaves t e.a (message_at t e.a) ne
rule_leaves t e Collect ne = absurd (ne refl)
rule_leaves t e Drop ne = drop_leaves t e.a e.b (entry_at t e.a e.b) ne
rule_leaves t e Unknown ne = refl

-- a refused event leaves the table as it was
pub refused_leaves : (t : Table) (e : Event) → (step t e).answer ≢ ACCEPTED → (step t e).table ≡ t
unfolding step
refused_leaves t e = refused_past t (common t e) (one_more t.count (by t (rule_of t e))) (uncounted (by t (rule_of t e)) ruled)
  where
    ruled : (by t (rule_of t e)).answer ≢ ACCEPTED → (by t (rule_of t e)).table ≡ t
    ruled = refused_past t (rule_of t e).refusals (rule_of t e).effect (rule_leaves t e (kind_of e.kind))

    uncounted : (x : Outcome) → (x.answer ≢ ACCEPTED → x.table ≡ t) → (one_more t.count x).answer ≢ ACCEPTED → (one_more t.count x).table ≡ t
    uncounted x leaves = go (is_accepted x) refl
      where
        go : (b : Bool) → is_accepted x ≡ b
            → (if b then record { answer = x.answer; deed = x.deed; table = with_count x.table (t.count + 1) } else x).answer ≢ ACCEPTED
            → (if b then record { answer = x.answer; deed = x.deed; table = with_count x.table (t.count + 1) } else x).table ≡ t
        go true a ne = absurd (ne (eqb-true x.answer ACCEPTED a))
        go false a ne = leaves ne
