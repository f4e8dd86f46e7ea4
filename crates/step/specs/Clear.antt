-- CLEAR P r: root r becomes empty. Definitions only; assumes nothing.
use Rattle.std.specs.Prelude.{[], ℕ}
use Rattle.terms.specs.Limits.{NONE}
use Rattle.heap.specs.Heap.{with_root}
use Rattle.table.specs.declared.Table.{Table}
use Rattle.table.specs.Table.{with_heap}
use Rattle.step.specs.Deed.{Arranged}
use Rattle.step.specs.Outcome.{Rule, did}

unfoldable pub clear : Table → ℕ → ℕ → Rule
clear t p r = record { refusals = []; effect = did Arranged (with_heap t (with_root t.heap p r NONE)) }
