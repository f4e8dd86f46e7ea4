-- NEW never hands out a number that is still named (document 02 and PROOF-PLAN: a program's place is never used too soon): of an object that isn't
-- live no root, no field of a live object, no entry and no message is left, on any node. What is said of it stands here, and why it holds in
-- proofs/Heap/FreshNumber.antt. Assumes nothing.
use Rattle.std.specs.Prelude.{◌≡◌, ◌≢◌, false, ℕ, ◌<◌}
use Rattle.std.proofs.Math.Bool.{true}
use Rattle.terms.specs.Limits.{NODES, OBJECTS, PLACES, FIELDS, ROOTS}
use Rattle.entry.specs.declared.Entry.TheVariants.{Absent}
use Rattle.heap.specs.Heap.{field_at, is_live, root_at}
use Rattle.table.specs.declared.Table.{Table}
use Rattle.table.specs.Table.{entry_at, message_at}
use Rattle.laws.specs.Counting.Change.{is_of}

-- nothing in the field names object o
pub record Unnamed (t : Table) (o : ℕ) : Type 0 where
  pub roots : (p r : ℕ) → p < NODES → r < ROOTS → root_at t.heap p r ≢ o
  pub fields : (x f : ℕ) → x < OBJECTS → f < FIELDS → is_live t.heap x ≡ true → field_at t.heap x f ≢ o
  pub entries : (p : ℕ) → p < NODES → entry_at t p o ≡ Absent
  pub messages : (s : ℕ) → s < PLACES → is_of o (message_at t s) ≡ false
