-- The sentences that answer the insurer's question (document 01, demand 3), of a table that accepted events make of the fresh one.
-- proofs/Promises.antt has them on one page with the laws, each with its proof. Definitions only; assumes nothing.
use Rattle.std.specs.Prelude.{◌≡◌, true, false, ℕ, ◌<◌}
use Rattle.terms.specs.Limits.{NODES, OBJECTS, PLACES, owner}
use Rattle.terms.specs.Numbers.{ACCEPTED}
use Rattle.entry.specs.Entry.{is_absent}
use Rattle.heap.specs.Heap.{is_live}
use Rattle.heap.specs.Walk.{Reached, owned_by}
use Rattle.table.specs.declared.Table.{Table}
use Rattle.table.specs.Table.{entry_at, message_at}
use Rattle.step.specs.Collect.{starts}
use Rattle.step.specs.Event.{COLLECT, NEW, event}
use Rattle.step.specs.Outcome.{value_of}
use Rattle.step.specs.Step.{step}
use Rattle.laws.specs.Counting.Change.{is_of}
use Rattle.laws.specs.Heap.FreshNumber.{Unnamed}
use Rattle.laws.specs.LawD.{Used}
use Rattle.laws.specs.LawE.{Clear}

-- ---- the insurer's question

-- a directory that is clear means that no other controller has an entry, and that no message of the object is in the air
abbrev pub ClearMeansNobody : Table → Type 0
ClearMeansNobody t =
    (o : ℕ) → o < OBJECTS → Clear t o
    → ((p : ℕ) → p < NODES → (p ≡ owner o → ⊥) → is_absent (entry_at t p o) ≡ true)
    × ((s : ℕ) → s < PLACES → is_of o (message_at t s) ≡ false)

-- an object that an accepted COLLECT reclaims was, before it, reached from no root and no reference in the air on any node
abbrev pub ReclaimsOnlyUnused : Table → Type 0
ReclaimsOnlyUnused t =
    (p o : ℕ) → (step t (event COLLECT p 0 0 0)).answer ≡ ACCEPTED → is_live t.heap o ≡ true
    → is_live (step t (event COLLECT p 0 0 0)).table.heap o ≡ false → Used t o → ⊥

-- and an object of node p that it leaves live was reached on p, from p's roots or from a directory that is not clear
abbrev pub KeepsOnlyReached : Table → Type 0
KeepsOnlyReached t =
    (p o : ℕ) → (step t (event COLLECT p 0 0 0)).answer ≡ ACCEPTED → owner o ≡ p
    → is_live (step t (event COLLECT p 0 0 0)).table.heap o ≡ true → Reached t.heap (owned_by p) (starts t p) o

-- NEW never hands out a number that any root, field, entry or message still names
abbrev pub NewNames : Table → Type 0
NewNames t = (p r : ℕ) → (step t (event NEW p r 0 0)).answer ≡ ACCEPTED → Unnamed t (value_of (step t (event NEW p r 0 0)).deed)
