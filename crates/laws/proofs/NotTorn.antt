-- No event is TORN, and none meets a broken shape (`NeverTorn` of specs/Sound.antt), where all is held well and the counts do their part: of SEND,
-- RECEIVE and SETTLE that the act on the entry is not refused (`CountsWhole`, which the laws on counts give). Assumes nothing.
use Rattle.std.specs.Prelude.{◌≡◌, Bool, true, false, not, List, [], ◌∷◌, ◌≢◌, ◌⊎◌, eqb, ltb, if◌then◌else◌}
use Rattle.std.proofs.Math.Path.{refl}
use Rattle.std.proofs.Common.{sym, ap, ◌∙◌, inl, inr, arith}
use Rattle.std.proofs.lemmas.Bool.{false≢true}
use Prim.Native.Nat.{ℕ, ◌<◌}
use borrow.Author.Tests.{eqb-false, eqb-true, ltb-true, not-false}
use Rattle.terms.specs.Choose.{Refusal, ◌and◌, ◌or◌, answered}
use Rattle.terms.specs.Limits.{EVENTS, NODES, OBJECTS, OWNED, PLACES, ROOTS, owner}
use Rattle.terms.specs.Numbers.{ACCEPTED, SHAPE, EVENT, ENDED, NOMSG, SELF, EMPTY, AWAY, ROOT, NOROOM, NOENTRY, BUSY, TORN, FULL}
use Rattle.entry.specs.declared.Entry.{Entry}
use Rattle.entry.specs.declared.Entry.TheVariants.{Absent, AtOwner, Elsewhere}
use Rattle.entry.specs.declared.ReturnCount.{ReturnCount}
use Rattle.entry.specs.declared.Weight.{Weight}
use Rattle.entry.specs.AtNode.{received, refuses, sent, settled}
use Rattle.entry.specs.Entry.{is_present}
use Rattle.heap.specs.Heap.{free_own, is_none, root_at}
use Rattle.heap.specs.Walk.{owned_by}
use Rattle.table.specs.declared.Message.{Message}
use Rattle.table.specs.declared.Message.TheVariants.{Empty, Reference, Decrement}
use Rattle.table.specs.declared.Table.{Table}
use Rattle.table.specs.Shape.{fits_table}
use Rattle.table.specs.ShapeLaws.{Shaped, root_object, shaped}
use Rattle.table.specs.Table.{entry_at, message_at}
use Rattle.step.specs.declared.Event.{Event}
use Rattle.step.specs.declared.Kind.{Kind}
use Rattle.step.specs.declared.Kind.TheVariants.{New, Move, Clear, Load, Store, Send, Receive, Settle, Collect, Drop, Unknown}
use Rattle.step.specs.Outcome.{Outcome}
use Rattle.step.specs.Clear.{clear}
use Rattle.step.specs.Collect.{collect_holding, collect_keeping, kept}
use Rattle.step.specs.Drop.{drop_of}
use Rattle.step.specs.Event.{fits_event, kind_of, ranges_of}
use Rattle.step.specs.Load.{load, out_of_reach}
use Rattle.step.specs.Move.{move}
use Rattle.step.specs.New.{new}
use Rattle.step.specs.Outcome.{Rule, by, refused}
use Rattle.step.specs.Receive.{receive_of}
use Rattle.step.specs.Send.{is_dead_own, send}
use Rattle.step.specs.Settle.{settle_of}
use Rattle.step.specs.Step.{common, one_more, rule_for, rule_of, step}
use Rattle.step.specs.Store.{store}
use Rattle.laws.proofs.Events.Answered.{NoneApplies, counted_answer}
use Rattle.laws.specs.Events.DidLaws.{Below}
use Rattle.laws.proofs.Events.DidLaws.{below}
use Rattle.laws.proofs.Heap.HeldAfter.{root_live}
use Rattle.laws.proofs.Heap.Holding.{WellHeld, sound_held}
use Rattle.laws.proofs.Heap.WholeHeap.{collect_whole, new_unlisted, receive_alive, send_alive, send_present}
use Rattle.laws.specs.Sound.{NeverTorn, Sound}

-- ---- a list of refusals that does not give one number

-- where a refusal applies, and none before it does, its number is another
abbrev Spares : ℕ → List Refusal → Type 0
Spares k [] = Unit {0}
Spares k (r ∷ rs) = (r.applies ≡ true → r.number ≢ k) × (r.applies ≡ false → Spares k rs)

-- then the answer is another, if the effect's is once none applies
spared : (t : Table) (k : ℕ) (rs : List Refusal) (x : Outcome) → Spares k rs → (NoneApplies rs → x.answer ≢ k)
    → (answered (refused t) rs x).answer ≢ k
spared t k [] x s after = after tt
spared t k (r ∷ rs) x s after = go r.applies refl (λ passes. spared t k rs x (s.1 passes) (λ none. after (passes, none)))
  where
    go : (b : Bool) → r.applies ≡ b → (r.applies ≡ false → (answered (refused t) rs x).answer ≢ k)
        → (if b then refused t r.number else answered (refused t) rs x).answer ≢ k
    go true e rest = s.0 e
    go false e rest = rest e

-- ---- what is asked of the counts

-- no act on an entry is refused
pub record CountsWhole (t : Table) : Type 0 where
  -- SEND by the owner, or by a node with an entry in use, while events are left
  pub sends : (p q o : ℕ) → p < NODES → q < NODES → p ≢ q → o < OBJECTS → t.count < EVENTS
      → (owner o ≡ p) ⊎ (is_present (entry_at t p o) ≡ true) → refuses (sent p q o (entry_at t p o)) ≡ false
  pub receives : (s : ℕ) {from to o : ℕ} → s < PLACES → t.count < EVENTS → message_at t s ≡ Reference from to o
      → refuses (received from to o (entry_at t to o)) ≡ false
  pub settles : (s : ℕ) {from to o : ℕ} {m : ReturnCount} {n : Weight} → s < PLACES → t.count < EVENTS → message_at t s ≡ Decrement from to o m n
      → refuses (settled m n (entry_at t to o)) ≡ false

-- ---- each kind

-- a number other than SHAPE and TORN
abbrev is_other : ℕ → Bool
is_other n = not (eqb n SHAPE) and not (eqb n TORN)

module _ {t : Table} (shape : Shaped t) (held : WellHeld t) (whole : CountsWhole t) (left : t.count < EVENTS)
    (k : ℕ) (other : (n : ℕ) → is_other n ≡ true → n ≢ k) (e : Event) where
  -- a test that fails does not apply
  never : {n : ℕ} (b : Bool) → b ≡ false → b ≡ true → n ≢ k
  never b fails applies = absurd (false≢true (sym fails ∙ applies))

  -- a rule that does what it is asked does not answer k, if its refusals don't
  rule_spared : (rule : Rule) → rule.effect.answer ≡ ACCEPTED → Spares k rule.refusals → (by t rule).answer ≢ k
  rule_spared rule done s = spared t k rule.refusals rule.effect s (λ none. rw done (other ACCEPTED refl))

  -- LOAD, STORE
  reach_spared : (p q : ℕ) → p < NODES → q < ROOTS → Spares k (out_of_reach t p (root_at t.heap p q))
  reach_spared p q node root = (
    λ a. other EMPTY refl,
    λ named. (λ a. other AWAY refl, λ own. (never _ (rw (root_live held shape p q node root named)), λ none. tt)),
  )

  -- NEW
  new_spared : (p r : ℕ) → p < NODES → Spares k (new t p r).refusals
  unfolding new
  new_spared p r node = (
    λ a. other ROOT refl,
    λ empty. (
      λ a. other NOROOM refl,
      λ room.
          let free = ltb-true (free_own t.heap p) OWNED (not-false (ltb (free_own t.heap p) OWNED) room) in
          (never _ (rw (new_unlisted shape held p node free)), λ none. tt),
    ),
  )

  -- SEND
  send_spared : (p r q : ℕ) → p < NODES → r < ROOTS → q < NODES → Spares k (send t p r q).refusals
  unfolding send
  send_spared p r q node root receiver = (
    λ a. other SELF refl,
    λ apart. (λ a. other EMPTY refl, λ named. (never _ (sends apart named), λ fine. (λ a. other FULL refl, λ none. tt))),
  )
    where
      x : ℕ
      x = root_at t.heap p r

      way : is_none x ≡ false → (b : Bool) → owned_by p x ≡ b → (owner x ≡ p) ⊎ (is_present (entry_at t p x) ≡ true)
      way named true own = inl (eqb-true (owner x) p own)
      way named false away = inr (send_present shape held p node r root named away)

      sends : eqb p q ≡ false → is_none x ≡ false → (is_dead_own t p x or refuses (sent p q x (entry_at t p x))) ≡ false
      sends apart named =
          let number = root_object t shape p r node root named in
          let act = whole.sends p q x node receiver (eqb-false p q apart) number left (way named (owned_by p x) refl) in
          rw (send_alive shape held p node r root named) act

  -- RECEIVE
  receive_spared : (s r : ℕ) → s < PLACES → (by t (receive_of t s r (message_at t s))).answer ≢ k
  unfolding receive_of
  receive_spared s r place = go (message_at t s) refl
    where
      go : (x : Message) → message_at t s ≡ x → (by t (receive_of t s r x)).answer ≢ k
      go Empty there = other NOMSG refl
      go (Decrement from to o m n) there = other NOMSG refl
      go (Reference from to o) there = rule_spared (receive_of t s r (Reference from to o)) refl (
        λ a. other ROOT refl,
        λ empty. (never _ (rw (receive_alive shape held s place there) (whole.receives s place left there)), λ none. tt),
      )

  -- SETTLE
  settle_spared : (s : ℕ) → s < PLACES → (by t (settle_of t s (message_at t s))).answer ≢ k
  unfolding settle_of
  settle_spared s place = go (message_at t s) refl
    where
      go : (x : Message) → message_at t s ≡ x → (by t (settle_of t s x)).answer ≢ k
      go Empty there = other NOMSG refl
      go (Reference from to o) there = other NOMSG refl
      go (Decrement from to o m n) there =
          rule_spared (settle_of t s (Decrement from to o m n)) refl (never _ (whole.settles s place left there), λ none. tt)

  -- DROP
  drop_spared : (p o : ℕ) (x : Entry) → (by t (drop_of t p o x)).answer ≢ k
  unfolding drop_of
  drop_spared p o Absent = other NOENTRY refl
  drop_spared p o (AtOwner d) = rule_spared (drop_of t p o (AtOwner d)) refl (λ a. other BUSY refl, λ none. tt)
  drop_spared p o (Elsewhere x) =
      rule_spared (drop_of t p o (Elsewhere x)) refl (λ a. other BUSY refl, λ idle. (λ a. other FULL refl, λ none. tt))

  -- by kind
  kind_spared : (x : Kind) → Below (ranges_of x) e → (by t (rule_for x t e)).answer ≢ k
  unfolding rule_for new move clear load store send collect_keeping collect_holding
  kind_spared New of = rule_spared (new t e.a e.b) refl (new_spared e.a e.b of.a)
  kind_spared Move of = other ACCEPTED refl
  kind_spared Clear of = other ACCEPTED refl
  kind_spared Load of = rule_spared (load t e.a e.b e.c e.d) refl (reach_spared e.a e.c of.a of.c)
  kind_spared Store of = rule_spared (store t e.a e.b e.c e.d) refl (reach_spared e.a e.b of.a of.b)
  kind_spared Send of = rule_spared (send t e.a e.b e.c) refl (send_spared e.a e.b e.c of.a of.b of.c)
  kind_spared Receive of = receive_spared e.a e.b of.a
  kind_spared Settle of = settle_spared e.a of.a
  kind_spared Collect of =
      rule_spared (collect_keeping t e.a (kept t e.a)) refl (never _ (collect_whole shape held e.a of.a), λ none. tt)
  kind_spared Drop of = drop_spared e.a e.b (entry_at t e.a e.b)
  kind_spared Unknown of = absurd (omega (arith, of.a))

-- ---- every event

-- past what any event may be refused for
step_spared : {t : Table} → fits_table t ≡ true → WellHeld t → CountsWhole t → (k : ℕ) → ((n : ℕ) → is_other n ≡ true → n ≢ k)
    → (e : Event) → (step t e).answer ≢ k
unfolding step fits_event
step_spared {t} shape held whole k other e =
    spared t k (common t e) (one_more t.count (by t (rule_of t e)))
    (λ broken. absurd (false≢true (sym (ap not shape) ∙ broken)), λ whole. (λ a. other EVENT refl, λ fits. (λ a. other ENDED refl, λ left. tt)))
    (λ none.
    let left = ltb-true t.count EVENTS (not-false (ltb t.count EVENTS) none.1.1.0) in
    let operands = below (ranges_of (kind_of e.kind)) e (not-false (fits_event e) none.1.0) in
    rw (counted_answer t.count (by t (rule_of t e))) (kind_spared (shaped t shape) held whole left k other e (kind_of e.kind) operands))

-- no event is TORN, and none meets a broken shape
pub never_torn : {t : Table} → Sound t → CountsWhole t → NeverTorn t
never_torn {t} sound whole e = (
  step_spared sound.shape (sound_held sound) whole TORN (λ n apart same. false≢true (rw same at apart)) e,
  step_spared sound.shape (sound_held sound) whole SHAPE (λ n apart same. false≢true (rw same at apart)) e,
)
