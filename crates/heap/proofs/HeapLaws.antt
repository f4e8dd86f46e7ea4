-- What the definitions say past the last object or node. Assumes nothing.
use Rattle.std.specs.Prelude.{◌≡◌, true, false, ℕ, ◌≤◌, ◌<◌, length, get_or}
use Rattle.std.proofs.Common.{sym, ap, ◌∙◌, arith}
use Rattle.std.proofs.lemmas.Bool.{false≢true}
use Rattle.std.proofs.Math.Decide.{dec_lt}
use Rattle.std.proofs.Math.ListN.{get_or-eq_default}
use Rattle.terms.specs.Limits.{OBJECTS}
use Rattle.heap.specs.declared.Object.{Object}
use Rattle.heap.specs.declared.Roots.{Roots}
use Rattle.heap.specs.declared.Heap.{Heap}
use Rattle.heap.specs.Heap.{is_live, field_at, root_at}

-- past the objects none is live
pub not_live : (h : Heap) (o : ℕ) → length h.objects ≤ o → is_live h o ≡ false
not_live h o past = ap (λ (x : Object). x.live) (get_or-eq_default h.objects _ past)

-- a live object has an object number
pub live_number : (h : Heap) (o : ℕ) → length h.objects ≡ OBJECTS → is_live h o ≡ true → o < OBJECTS
live_number h o size live = elim (dec_lt o OBJECTS) [ yes lt ↦ lt | no past ↦ absurd (false≢true (sym (not_live h o (omega arith)) ∙ live)) ]

-- past the objects a field is 0
pub no_field : (h : Heap) (o f : ℕ) → length h.objects ≤ o → field_at h o f ≡ 0
no_field h o f past = ap (λ (x : Object). get_or x.fields f 0) (get_or-eq_default h.objects _ past)

-- past the nodes a root is 0
pub no_root : (h : Heap) (p r : ℕ) → length h.roots ≤ p → root_at h p r ≡ 0
no_root h p r past = ap (λ (x : Roots). get_or x.at r 0) (get_or-eq_default h.roots _ past)
