-- What is reached from a set of starts through fields (document 01, COLLECT and law D): once as a definition that computes, once as a
-- relation that a reader checks at a glance. proofs/Reached.antt proves that they agree. Definitions only; assumes nothing.
use Rattle.std.specs.Prelude.{◌≡◌, Bool, true, false, List, [], ◌∷◌, ℕ, zero, suc, ◌+◌, ◌*◌, ◌<◌, eqb, get_or, set, replicate, if◌then◌else◌}
use Rattle.terms.specs.Counted.{gather, holds, how_many}
use Rattle.terms.specs.Limits.{OBJECTS, OWNED, FIELDS, owner}
use Rattle.heap.specs.declared.Heap.{Heap}
use Rattle.heap.specs.Heap.{field_at, fields_of}

-- ---- the scope of a walk

-- the objects that a walk goes through
abbrev pub Scope : Type 0
Scope = ℕ → Bool

-- "on P only": the objects of one node
abbrev pub owned_by : ℕ → Scope
owned_by p o = eqb (owner o) p

-- the objects of every node
abbrev pub everywhere : Scope
everywhere o = true

-- ---- as a relation

-- object o stands in the scope
pub record Within (scope : Scope) (o : ℕ) : Type 0 where
  pub number : o < OBJECTS
  pub inside : scope o ≡ true

-- object o is reached: a start names it, or a field of an object that is reached
pub data Reached (h : Heap) (scope : Scope) (starts : List ℕ) : ℕ → Type 0 where
  started : {o : ℕ} → Within scope o → holds starts o ≡ true → Reached h scope starts o
  through : {x o : ℕ} → Reached h scope starts x → (f : ℕ) → f < FIELDS → field_at h x f ≡ o → Within scope o → Reached h scope starts o

-- ---- as a computation

-- marks: for each object, whether it has been reached
abbrev pub Marks : Type 0
Marks = List Bool

abbrev pub unmarked : Marks
unmarked = replicate OBJECTS false

abbrev pub is_marked : Marks → ℕ → Bool
is_marked m o = get_or m o false

-- the marks, with each name of the list that stands in the scope marked too
unfoldable pub mark : Scope → Marks → List ℕ → Marks
mark scope m [] = m
mark scope m (x ∷ xs) = mark scope (if scope x then set m x true else m) xs

-- all that the fields of marked objects hold
unfoldable pub held_by : Heap → Marks → List ℕ
held_by h m = gather OBJECTS (λ o. if is_marked m o then fields_of h o else [])

-- the objects of p that a list of eight tests points at
unfoldable pub pointed : ℕ → List Bool → List ℕ
pointed p tests = gather OWNED (λ k. if get_or tests k false then (OWNED * p + k) ∷ [] else [])

-- n rounds, each of which marks what marked objects name
unfoldable pub rounds : ℕ → Heap → Scope → Marks → Marks
rounds zero h scope m = m
rounds (suc n) h scope m = rounds n h scope (mark scope m (held_by h m))

-- what is reached: as many rounds as there are objects in the scope, since each but the last marks another
unfoldable pub reached : Heap → Scope → List ℕ → Marks
reached h scope starts = rounds (how_many OBJECTS scope) h scope (mark scope unmarked starts)
