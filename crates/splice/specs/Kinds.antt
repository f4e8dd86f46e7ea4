-- The changes of each kind of event but COLLECT, as its rule makes them (document 01, "Events"). MOVE, CLEAR and LOAD are root-differs of
-- Events.antt as it stands. What is said of it stands here, and why it holds in proofs/KindLaws.antt. Assumes nothing.
use Rattle.std.specs.Prelude.{ℕ, set}
use Rattle.heap.specs.declared.Object.{Object}
use Rattle.heap.specs.Heap.{is_live, object_at}
use Rattle.table.specs.declared.Table.{Table}

-- ---- the events

-- the fields of an object with one of them changed
abbrev pub object_with : Table → ℕ → ℕ → ℕ → Object
object_with t o f x = record { live = is_live t.heap o; fields = set (object_at t.heap o).fields f x }
