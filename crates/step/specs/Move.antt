-- MOVE P r q: root r takes what root q holds, empty too. Definitions only; assumes nothing.
use Rattle.std.specs.Prelude.{[], ℕ}
use Rattle.heap.specs.Heap.{root_at, with_root}
use Rattle.table.specs.declared.Table.{Table}
use Rattle.table.specs.Table.{with_heap}
use Rattle.step.specs.Deed.{Arranged}
use Rattle.step.specs.Outcome.{Rule, did}

unfoldable pub move : Table → ℕ → ℕ → ℕ → Rule
move t p r q = record { refusals = []; effect = did Arranged (with_heap t (with_root t.heap p r (root_at t.heap p q))) }
