-- Sound: what every accepted event keeps (request P7 of document 02 names the same conditions). Definitions only; assumes nothing.
use Rattle.std.specs.Prelude.{◌≡◌, ◌≢◌, Bool, true, ℕ, suc, ◌+◌, ◌≤◌, ◌<◌, ℤ, pos, negsuc}
use Rattle.terms.specs.Choose.{◌and◌, ◌or◌}
use Rattle.terms.specs.Counted.{sum}
use Rattle.terms.specs.Limits.{NODES, OBJECTS, PLACES, FIELDS, ROOTS, owner}
use Rattle.terms.specs.Numbers.{SHAPE, TORN}
use Rattle.entry.specs.Entry.{is_directory, is_present, msg_ctr_of, rc_of}
use Rattle.heap.specs.Heap.{field_at, is_live, is_none, root_at}
use Rattle.heap.specs.Walk.{owned_by}
use Rattle.table.specs.declared.Table.{Table}
use Rattle.table.specs.Formed.{Formed}
use Rattle.table.specs.Shape.{fits_table}
use Rattle.table.specs.Table.{entry_at, is_reference_of, message_at}
use Rattle.step.specs.declared.Event.{Event}
use Rattle.step.specs.Step.{step}
use Rattle.laws.specs.LawA.{LawA}
use Rattle.laws.specs.LawB.{LawB, returns_in}
use Rattle.laws.specs.LawC.{LawC}

-- what node p holds is nothing, or a live object that is its own or for which it has an entry with Presence true
abbrev pub holds_well : Table → ℕ → ℕ → Bool
holds_well t p x = is_none x or (is_live t.heap x and (owned_by p x or is_present (entry_at t p x)))

-- the part of a whole number above zero, and the part below
abbrev pub above : ℤ → ℕ
above (pos n) = n
above (negsuc n) = 0

abbrev pub below : ℤ → ℕ
below (pos n) = 0
below (negsuc n) = suc n

-- the return counts above zero of object o, in entries and in decrements
abbrev pub returns_above : Table → ℕ → ℕ
returns_above t o = sum NODES (λ p. above (msg_ctr_of (entry_at t p o))) + sum PLACES (λ s. above (returns_in o (message_at t s)))

pub record Sound (t : Table) : Type 0 where
  pub formed : Formed t
  pub shape : fits_table t ≡ true
  pub law_a : LawA t
  pub law_b : LawB t
  pub law_c : LawC t
  -- roots and fields of live objects
  pub roots : (p r : ℕ) → p < NODES → r < ROOTS → holds_well t p (root_at t.heap p r) ≡ true
  pub fields : (o f : ℕ) → o < OBJECTS → f < FIELDS → is_live t.heap o ≡ true → holds_well t (owner o) (field_at t.heap o f) ≡ true
  -- directories, and references in the air, are of live objects
  pub directories : (p o : ℕ) → p < NODES → o < OBJECTS → is_directory (entry_at t p o) ≡ true → is_live t.heap o ≡ true
  pub references : (s o : ℕ) → s < PLACES → is_reference_of o (message_at t s) ≡ true → is_live t.heap o ≡ true
  -- counts stay within the event count
  pub counts : (p o : ℕ) → p < NODES → o < OBJECTS → rc_of (entry_at t p o) ≤ t.count
  pub returns : (o : ℕ) → o < OBJECTS → returns_above t o ≤ t.count
  pub owed : (p o : ℕ) → p < NODES → o < OBJECTS → below (msg_ctr_of (entry_at t p o)) ≤ t.count

-- no event is refused as if the state could not have come about
abbrev pub NeverTorn : Table → Type 0
NeverTorn t = (e : Event) → ((step t e).answer ≢ TORN) × ((step t e).answer ≢ SHAPE)
