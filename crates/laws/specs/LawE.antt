-- Law E: once nobody uses an object, its directory comes clear after exactly the decrements that were due, and until then one more is
-- always possible (document 01, law E). Definitions only; assumes nothing.
use Rattle.std.specs.Prelude.{◌≡◌, ◌⊎◌, ◌↔◌, Bool, true, false, not, List, [], ◌∷◌, ℕ, ◌+◌, ◌<◌, eqb, if◌then◌else◌}
use Rattle.terms.specs.Choose.{Refusal, ◌and◌, ◌or◌}
use Rattle.terms.specs.Counted.{holds, how_many}
use Rattle.terms.specs.Limits.{NODES, OBJECTS, PLACES, owner}
use Rattle.terms.specs.Numbers.{ENDED, FULL}
use Rattle.entry.specs.Entry.{is_clear, is_present, is_remote}
use Rattle.heap.specs.Heap.{root_at}
use Rattle.table.specs.declared.Table.{Table}
use Rattle.table.specs.Table.{entry_at, message_at, is_decrement_of, is_reference_of}
use Rattle.step.specs.declared.Event.{Event}
use Rattle.step.specs.Event.{event, SEND, SETTLE, DROP}
use Rattle.step.specs.Step.{refusals_of}
use Rattle.laws.specs.Sequence.{Accepted, along}

-- ---- the state that the law takes

-- each remote entry of o has Presence false, and no reference to o is in the air
pub record Unused (t : Table) (o : ℕ) : Type 0 where
  pub idle : (p : ℕ) → p < NODES → is_present (entry_at t p o) ≡ false
  pub quiet : (s : ℕ) → s < PLACES → is_reference_of o (message_at t s) ≡ false

-- remote entries of o, and decrements of o in the air
abbrev pub due : Table → ℕ → ℕ
due t o = how_many NODES (λ p. is_remote (entry_at t p o)) + how_many PLACES (λ s. is_decrement_of o (message_at t s))

-- the directory of o is absent or has both numbers 0
abbrev pub Clear : Table → ℕ → Type 0
Clear t o = is_clear (entry_at t (owner o) o) ≡ true

-- ---- the events that it speaks of

-- a SEND of o
abbrev pub is_send_of : ℕ → Table → Event → Bool
is_send_of o t e = eqb e.kind SEND and eqb (root_at t.heap e.a e.b) o

-- a SETTLE of o
abbrev pub is_settle_of : ℕ → Table → Event → Bool
is_settle_of o t e = eqb e.kind SETTLE and is_decrement_of o (message_at t e.a)

-- ---- one more is possible

-- of all refusals that apply, each has one of these numbers
unfoldable pub only_these : List ℕ → List Refusal → Bool
only_these ns [] = true
only_these ns (r ∷ rs) = if not r.applies or holds ns r.number then only_these ns rs else false

abbrev pub RefusedOnlyBy : List ℕ → Table → Event → Type 0
RefusedOnlyBy ns t e = only_these ns (refusals_of t e) ≡ true

-- a decrement of o is in the air
pub record InAir (t : Table) (o : ℕ) : Type 0 where
  pub place : ℕ
  pub number : place < PLACES
  pub held : is_decrement_of o (message_at t place) ≡ true

-- some remote entry of o can be dropped, refused only by FULL or ENDED
pub record Droppable (t : Table) (o : ℕ) : Type 0 where
  pub node : ℕ
  pub number : node < NODES
  pub remote : is_remote (entry_at t node o) ≡ true
  pub free : RefusedOnlyBy (FULL ∷ ENDED ∷ []) t (event DROP node o 0 0)

-- "until then": a decrement or a drop is at hand, and a SETTLE of o is refused only by ENDED
pub record Onward (t : Table) (o : ℕ) : Type 0 where
  pub one_more : InAir t o ⊎ Droppable t o
  pub settles : (s : ℕ) → s < PLACES → is_decrement_of o (message_at t s) ≡ true → RefusedOnlyBy (ENDED ∷ []) t (event SETTLE s 0 0 0)

-- ---- the law

-- after any accepted events without a SEND of o: clear just when as many SETTLEs of o were accepted as were due; before that, onward
abbrev pub LawE : Table → Type 0
LawE t =
    (o : ℕ) → o < OBJECTS → Unused t o
    → (es : List Event) (u : Table) → Accepted t es u → along (is_send_of o) t es ≡ 0
    → (Clear u o ↔ (along (is_settle_of o) t es ≡ due t o)) × (along (is_settle_of o) t es < due t o → Onward u o)
