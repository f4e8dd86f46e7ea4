-- What the laws of the plans share: two tests that agree have one lowest number; a plan's change of the count, of an object and of a node's roots
-- is the change of its record. Assumes nothing.
use Rattle.std.specs.Prelude.{◌≡◌, refl, Bool, List, ◌∷◌, ℕ, zero, suc, ◌+◌, ◌<◌}
use Rattle.std.proofs.Common.{sym, arith}
use Rattle.terms.specs.Counted.{lowest_from}
use Rattle.terms.specs.Limits.{NODES, OBJECTS}
use Rattle.heap.specs.declared.Object.{Object}
use Rattle.heap.specs.declared.Roots.{Roots}
use Rattle.image.specs.declared.Held.TheVariants as h
use Rattle.image.specs.Find.{of_object, of_roots}
use Rattle.image.specs.Spots.{count, object, roots}
use Rattle.splice.specs.Events.{count_to, object_to, roots_to}
use Rattle.splice.specs.Patched as patched
use Rattle.table.specs.declared.Table.{Table}
use Rattle.plan.specs.Change.{Change, To}
use Rattle.plan.specs.Plan.{at, object_spot, roots_spot}
use Rattle.plan.specs.Planned.{Matches, made}
use Rattle.plan.specs.Told.{Told}

-- two tests that agree have one lowest number
pub lowest_same : (k n : ℕ) (f g : ℕ → Bool) → ((i : ℕ) → i < k + n → f i ≡ g i) → lowest_from k n f ≡ lowest_from k n g
unfolding lowest_from
lowest_same k zero f g agree = refl
lowest_same k (suc n) f g agree = rw (agree k (omega arith), lowest_same (suc k) n f g (λ i lt. agree i (omega arith)))

module _ (l : List ℕ) (t : Table) (told : Told l t) where
  -- the event count
  pub counted : (n : ℕ) {cs : List Change} {ps : List patched.Change} → Matches l cs ps → Matches l (To 0 8 0 0 (h.Count n) ∷ cs) (count_to n ∷ ps)
  counted n rest = made count tt (sym told.first) (sym told.second) refl rest

  -- an object
  module _ (o : ℕ) (lo : o < OBJECTS) (x : Object) where
    pub object_made : {cs : List Change} {ps : List patched.Change} → Matches l cs ps
        → Matches l (at (object_spot l o) o 0 (of_object x) ∷ cs) (object_to o x ∷ ps)
    object_made rest = made (object o) lo (told.begins (object o) lo) (told.ends (object o) lo) refl rest

  -- the roots of a node
  module _ (p : ℕ) (lp : p < NODES) (x : Roots) where
    pub roots_made : {cs : List Change} {ps : List patched.Change} → Matches l cs ps
        → Matches l (at (roots_spot l p) p 0 (of_roots x) ∷ cs) (roots_to p x ∷ ps)
    roots_made rest = made (roots p) lp (told.begins (roots p) lp) (told.ends (roots p) lp) refl rest
