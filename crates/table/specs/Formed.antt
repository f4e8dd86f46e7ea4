-- A table as its type makes it: every array has its length. A list of the logic may have any, so what is proved of all tables asks for this.
-- Definitions only; assumes nothing.
use Rattle.std.specs.Prelude.{◌≡◌, ℕ, ◌<◌, length}
use Rattle.terms.specs.Limits.{NODES, OBJECTS, PLACES, FIELDS, ROOTS}
use Rattle.heap.specs.Heap.{object_at, roots_at}
use Rattle.table.specs.declared.Table.{Table}
use Rattle.table.specs.Table.{cell_at}

pub record Formed (t : Table) : Type 0 where
  pub objects : length t.heap.objects ≡ OBJECTS
  pub fields : (o : ℕ) → o < OBJECTS → length (object_at t.heap o).fields ≡ FIELDS
  pub nodes : length t.heap.roots ≡ NODES
  pub roots : (p : ℕ) → p < NODES → length (roots_at t.heap p).at ≡ ROOTS
  pub cells : length t.cells ≡ OBJECTS
  pub entries : (o : ℕ) → o < OBJECTS → length (cell_at t o).at ≡ NODES
  pub places : length t.air ≡ PLACES
