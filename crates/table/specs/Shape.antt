-- The shape that every table must have (document 01, "Shape"), the last sentence of which our types keep by themselves: where no entry
-- and no message stands there are no numbers. Definitions only; assumes nothing.
use Rattle.std.specs.Prelude.{Bool, true, not, ℕ, leb, ltb, eqb}
use Rattle.terms.specs.Choose.{◌and◌}
use Rattle.terms.specs.Counted.{every}
use Rattle.terms.specs.Limits.{NODES, OBJECTS, PLACES, EVENTS}
use Rattle.entry.specs.Fits.{fits_entry, fits_returns, fits_weight}
use Rattle.heap.specs.Heap.{fits_heap}
use Rattle.table.specs.declared.Message.{Message}
use Rattle.table.specs.declared.Message.TheVariants.{Empty, Reference, Decrement}
use Rattle.table.specs.declared.Cell.{Cell}
use Rattle.table.specs.declared.Table.{Table}
use Rattle.table.specs.Table.{cell_at, entry_in, message_at}

abbrev pub fits_count : ℕ → Bool
fits_count n = leb n EVENTS

-- every entry of object o
unfoldable pub fits_cell : ℕ → Cell → Bool
fits_cell o c = every NODES (λ p. fits_entry p o (entry_in c p))

-- a way through the air: from a node to another, of an object
abbrev pub fits_way : ℕ → ℕ → ℕ → Bool
fits_way from to o = ltb from NODES and ltb to NODES and not (eqb from to) and ltb o OBJECTS

unfoldable pub fits_message : Message → Bool
fits_message Empty = true
fits_message (Reference from to o) = fits_way from to o
fits_message (Decrement from to o m n) = fits_way from to o and fits_returns m and fits_weight n

unfoldable pub fits_table : Table → Bool
fits_table t =
    fits_count t.count
    and fits_heap t.heap
    and every OBJECTS (λ o. fits_cell o (cell_at t o))
    and every PLACES (λ s. fits_message (message_at t s))
