-- In the fresh table all is held well: nothing is named and nothing is live. Assumes nothing.
use Rattle.std.specs.Prelude.{◌≡◌, false, ℕ, ◌<◌, get_or}
use Rattle.std.proofs.Common.{sym, ap, ◌∙◌}
use Rattle.std.proofs.lemmas.Bool.{false≢true}
use Rattle.std.proofs.lemmas.List.{get_or-replicate}
use Rattle.terms.specs.Limits.{NODES, OBJECTS, ROOTS, NONE}
use Rattle.heap.specs.declared.Object.{Object}
use Rattle.heap.specs.declared.Roots.{Roots}
use Rattle.heap.specs.Heap.{fresh_heap, is_live, root_at}
use Rattle.table.specs.Fresh.{fresh_entry, fresh_message, fresh_object, fresh_roots}
use Rattle.table.specs.Table.{fresh_table}
use Rattle.laws.proofs.Heap.Holding.{WellHeld}

-- every root is empty
fresh_root : (p r : ℕ) → p < NODES → r < ROOTS → root_at fresh_heap p r ≡ NONE
fresh_root p r node root = ap (λ (x : Roots). get_or x.at r 0) (fresh_roots p node) ∙ get_or-replicate ROOTS r NONE 0 root

-- no object is live
fresh_dead : (o : ℕ) → o < OBJECTS → is_live fresh_heap o ≡ false
fresh_dead o lt = ap (λ (x : Object). x.live) (fresh_object o lt)

-- so all is held well
pub fresh_held : WellHeld fresh_table
fresh_held = record {
  roots = λ p r node root. rw (fresh_root p r node root);
  fields = λ o f lt small live. absurd (false≢true (sym (fresh_dead o lt) ∙ live));
  directories = λ p o node lt d. absurd (false≢true (rw (fresh_entry p o node lt) at d));
  references = λ s o place h. absurd (false≢true (rw (fresh_message s place) at h));
}
