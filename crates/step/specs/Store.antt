-- STORE P q f r: field f of the object in root q takes what root r holds. Definitions only; assumes nothing.
use Rattle.std.specs.Prelude.{ℕ}
use Rattle.heap.specs.Heap.{root_at, with_field}
use Rattle.table.specs.declared.Table.{Table}
use Rattle.table.specs.Table.{with_heap}
use Rattle.step.specs.Deed.{Arranged}
use Rattle.step.specs.Outcome.{Rule, did}
use Rattle.step.specs.Load.{out_of_reach}

unfoldable pub store : Table → ℕ → ℕ → ℕ → ℕ → Rule
store t p q f r = record {
  refusals = out_of_reach t p (root_at t.heap p q);
  effect = did Arranged (with_heap t (with_field t.heap (root_at t.heap p q) f (root_at t.heap p r)));
}
