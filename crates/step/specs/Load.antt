-- LOAD P r q f: root r takes field f of the object in root q. Definitions only; assumes nothing.
use Rattle.std.specs.Prelude.{not, List, [], ◌∷◌, ℕ}
use Rattle.terms.specs.Choose.{Refusal, ◌when◌}
use Rattle.terms.specs.Numbers.{EMPTY, AWAY, TORN}
use Rattle.heap.specs.Heap.{root_at, field_at, is_live, is_none, with_root}
use Rattle.heap.specs.Walk.{owned_by}
use Rattle.table.specs.declared.Table.{Table}
use Rattle.table.specs.Table.{with_heap}
use Rattle.step.specs.Deed.{Arranged}
use Rattle.step.specs.Outcome.{Rule, did}

-- why the fields of what root q of p holds are out of reach: LOAD and STORE ask the same
abbrev pub out_of_reach : Table → ℕ → ℕ → List Refusal
out_of_reach t p o =
    (EMPTY when is_none o)
    ∷ (AWAY when not (owned_by p o))
    ∷ (TORN when not (is_live t.heap o))
    ∷ []

unfoldable pub load : Table → ℕ → ℕ → ℕ → ℕ → Rule
load t p r q f = record {
  refusals = out_of_reach t p (root_at t.heap p q);
  effect = did Arranged (with_heap t (with_root t.heap p r (field_at t.heap (root_at t.heap p q) f)));
}
