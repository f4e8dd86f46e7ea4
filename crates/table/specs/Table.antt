-- The field table (document 01, "The field table"): what stands where, the fresh state, and the table with one thing changed.
-- Definitions only; assumes nothing.
use Rattle.std.specs.Prelude.{Bool, true, false, List, [], ℕ, eqb, get_or, set, replicate}
use Rattle.terms.specs.Counted.{lowest}
use Rattle.terms.specs.Limits.{NODES, OBJECTS, PLACES}
use Rattle.entry.specs.declared.Entry.{Entry}
use Rattle.entry.specs.declared.Entry.TheVariants.{Absent}
use Rattle.heap.specs.declared.Heap.{Heap}
use Rattle.heap.specs.Heap.{fresh_heap}
use Rattle.table.specs.declared.Message.{Message}
use Rattle.table.specs.declared.Message.TheVariants.{Empty, Reference, Decrement}
use Rattle.table.specs.declared.Cell.{Cell}
use Rattle.table.specs.declared.Table.{Table}

-- nothing live, all roots and fields empty, no entry, no message, count 0
abbrev pub fresh_table : Table
fresh_table = record {
  count = 0;
  heap = fresh_heap;
  cells = replicate OBJECTS (record { at = replicate NODES (record { held = Absent }) });
  air = replicate PLACES (record { held = Empty });
}

-- ---- what stands where

abbrev pub cell_at : Table → ℕ → Cell
cell_at t o = get_or t.cells o (record { at = [] })

-- the entry of a cell at node p
abbrev pub entry_in : Cell → ℕ → Entry
entry_in c p = (get_or c.at p (record { held = Absent })).held

-- the entry of object o at node p
abbrev pub entry_at : Table → ℕ → ℕ → Entry
entry_at t p o = entry_in (cell_at t o) p

-- the message in place s
abbrev pub message_at : Table → ℕ → Message
message_at t s = (get_or t.air s (record { held = Empty })).held

-- ---- the table with one thing changed

abbrev pub with_count : Table → ℕ → Table
with_count t n = record { count = n; heap = t.heap; cells = t.cells; air = t.air }

abbrev pub with_heap : Table → Heap → Table
with_heap t h = record { count = t.count; heap = h; cells = t.cells; air = t.air }

abbrev pub with_cells : Table → List Cell → Table
with_cells t cs = record { count = t.count; heap = t.heap; cells = cs; air = t.air }

abbrev pub with_message : Table → ℕ → Message → Table
with_message t s m = record { count = t.count; heap = t.heap; cells = t.cells; air = set t.air s (record { held = m }) }

abbrev pub cell_with : Cell → ℕ → Entry → Cell
cell_with c p e = record { at = set c.at p (record { held = e }) }

abbrev pub with_entry : Table → ℕ → ℕ → Entry → Table
with_entry t p o e = with_cells t (set t.cells o (cell_with (cell_at t o) p e))

-- ---- messages

abbrev pub is_empty : Message → Bool
is_empty Empty = true
is_empty (Reference from to o) = false
is_empty (Decrement from to o m n) = false

-- a reference to object o is in the air here
abbrev pub is_reference_of : ℕ → Message → Bool
is_reference_of o Empty = false
is_reference_of o (Reference from to x) = eqb x o
is_reference_of o (Decrement from to x m n) = false

-- a decrement of object o is in the air here
abbrev pub is_decrement_of : ℕ → Message → Bool
is_decrement_of o Empty = false
is_decrement_of o (Reference from to x) = false
is_decrement_of o (Decrement from to x m n) = eqb x o

-- the lowest empty place; as many as there are places where none is empty
abbrev pub empty_place : Table → ℕ
empty_place t = lowest PLACES (λ s. is_empty (message_at t s))
