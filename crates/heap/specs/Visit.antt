-- A part of the walk: what it makes of the marks that came in (`Visited`), how parts come one after the other, and when the parts are the whole.
-- What is said of it stands here, and why it holds in proofs/Visit.antt. Assumes nothing.
use Rattle.std.specs.Prelude.{◌≡◌, true, List, ◌⊎◌, ℕ, ◌<◌, length}
use Rattle.terms.specs.Counted.{holds}
use Rattle.terms.specs.Limits.{OBJECTS, FIELDS}
use Rattle.heap.specs.declared.Heap.{Heap}
use Rattle.heap.specs.Heap.{field_at}
use Rattle.heap.specs.Walk.{Scope, Within, Reached, Marks, is_marked}

-- all that object x holds of the scope is marked
abbrev pub Shut : Heap → Scope → Marks → ℕ → Type 0
Shut h scope m x = (f o : ℕ) → f < FIELDS → field_at h x f ≡ o → Within scope o → is_marked m o ≡ true

-- a walk from the names, through objects that were not marked yet, takes the marks m to r
pub record Visited (h : Heap) (scope : Scope) (names : List ℕ) (m r : Marks) : Type 0 where
  pub size : length r ≡ OBJECTS
  pub grows : (o : ℕ) → is_marked m o ≡ true → is_marked r o ≡ true
  pub begun : (o : ℕ) → holds names o ≡ true → Within scope o → is_marked r o ≡ true
  pub closed : (x : ℕ) → is_marked r x ≡ true → (is_marked m x ≡ true) ⊎ Shut h scope r x
  pub sound : (o : ℕ) → is_marked r o ≡ true → (is_marked m o ≡ true) ⊎ Reached h scope names o
