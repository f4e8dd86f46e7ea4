-- Objects, fields and roots (document 01, "The field table"): what each holds, and the heap with one of them changed.
-- Definitions only; assumes nothing.
use Rattle.std.specs.Prelude.{Bool, true, false, not, List, [], ◌∷◌, ℕ, ◌+◌, ◌*◌, ltb, eqb, get_or, set, replicate, if◌then◌else◌}
use Rattle.terms.specs.Choose.{◌and◌, ◌or◌}
use Rattle.terms.specs.Counted.{every, lowest}
use Rattle.terms.specs.Limits.{NODES, OBJECTS, OWNED, FIELDS, ROOTS, NONE}
use Rattle.heap.specs.declared.Object.{Object}
use Rattle.heap.specs.declared.Roots.{Roots}
use Rattle.heap.specs.declared.Heap.{Heap}

-- ---- what is held

-- an object that isn't live, its fields empty
abbrev pub idle : Object
idle = record { live = false; fields = replicate FIELDS NONE }

-- the object that has just been made
abbrev pub born : Object
born = record { live = true; fields = replicate FIELDS NONE }

-- nothing live, all roots and fields empty
abbrev pub fresh_heap : Heap
fresh_heap = record { objects = replicate OBJECTS idle; roots = replicate NODES (record { at = replicate ROOTS NONE }) }

abbrev pub object_at : Heap → ℕ → Object
object_at h o = get_or h.objects o (record { live = false; fields = [] })

abbrev pub is_live : Heap → ℕ → Bool
is_live h o = (object_at h o).live

abbrev pub field_at : Heap → ℕ → ℕ → ℕ
field_at h o f = get_or (object_at h o).fields f 0

abbrev pub roots_at : Heap → ℕ → Roots
roots_at h p = get_or h.roots p (record { at = [] })

abbrev pub root_at : Heap → ℕ → ℕ → ℕ
root_at h p r = get_or (roots_at h p).at r 0

-- the root or field holds nothing
abbrev pub is_none : ℕ → Bool
is_none x = eqb x NONE

-- the four fields of an object, in order
abbrev pub fields_of : Heap → ℕ → List ℕ
fields_of h o = field_at h o 0 ∷ field_at h o 1 ∷ field_at h o 2 ∷ field_at h o 3 ∷ []

-- the eight roots of a node, in order
abbrev pub roots_of : Heap → ℕ → List ℕ
roots_of h p = root_at h p 0 ∷ root_at h p 1 ∷ root_at h p 2 ∷ root_at h p 3 ∷ root_at h p 4 ∷ root_at h p 5 ∷ root_at h p 6 ∷ root_at h p 7 ∷ []

-- ---- what is changed

-- an object with another name in a field, roots with another name in one of them
abbrev pub with_field_in : Object → ℕ → ℕ → Object
with_field_in x f name = record { live = x.live; fields = set x.fields f name }

abbrev pub with_root_in : Roots → ℕ → ℕ → Roots
with_root_in x r name = record { at = set x.at r name }

abbrev pub with_object : Heap → ℕ → Object → Heap
with_object h o x = record { objects = set h.objects o x; roots = h.roots }

abbrev pub with_field : Heap → ℕ → ℕ → ℕ → Heap
with_field h o f x = with_object h o (with_field_in (object_at h o) f x)

abbrev pub with_root : Heap → ℕ → ℕ → ℕ → Heap
with_root h p r x = record { objects = h.objects; roots = set h.roots p (with_root_in (roots_at h p) r x) }

-- the lowest object of the node that isn't live, counted from 0 among its own; as many as it owns where all are live
abbrev pub free_own : Heap → ℕ → ℕ
free_own h p = lowest OWNED (λ k. not (is_live h (OWNED * p + k)))

-- ---- its shape

-- a root or field holds an object number or nothing
abbrev pub fits_name : ℕ → Bool
fits_name x = ltb x OBJECTS or is_none x

-- a field of an object; of one that isn't live it is empty
abbrev pub fits_field : Bool → ℕ → Bool
fits_field live x = if live then fits_name x else is_none x

unfoldable pub fits_object : Object → Bool
fits_object x = every FIELDS (λ f. fits_field x.live (get_or x.fields f 0))

unfoldable pub fits_roots : Roots → Bool
fits_roots x = every ROOTS (λ r. fits_name (get_or x.at r 0))

unfoldable pub fits_heap : Heap → Bool
fits_heap h = every OBJECTS (λ o. fits_object (object_at h o)) and every NODES (λ p. fits_roots (roots_at h p))
