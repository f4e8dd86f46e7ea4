-- COLLECT on an image, asked where it lies (document 01, COLLECT): what of the rule is asked of the bytes, what is decided, and the changes that
-- follow. Definitions only; assumes nothing.
use Rattle.std.specs.Prelude.{Bool, not, List, [], ◌∷◌, ◌++◌, ℕ, ◌+◌, ◌*◌, ltb, if◌then◌else◌}
use Rattle.terms.specs.Choose.{◌when◌, ◌and◌, answered}
use Rattle.terms.specs.Counted.{holds, how_many, list}
use Rattle.terms.specs.Limits.{NODES, OBJECTS, OWNED}
use Rattle.terms.specs.Numbers.{ACCEPTED, EVENT, TORN}
use Rattle.entry.specs.AtNode.{set_unused}
use Rattle.entry.specs.Entry.{is_clear, is_present}
use Rattle.heap.specs.declared.Heap.{Heap}
use Rattle.heap.specs.Heap as heap
use Rattle.heap.specs.Walk.{Marks, held_by, is_marked, owned_by, pointed, reached, unmarked}
use Rattle.image.specs.declared.Held.TheVariants as h
use Rattle.step.specs.CollectParts.{is_whole, reclaims}
use Rattle.plan.specs.Change.{Change, Same, To, Sweep}
use Rattle.plan.specs.Plan.{at, object_spot, object_of, roots_of, entry_spot_in, entry_of}

-- ---- what the image tells

-- all objects and roots
unfoldable pub heap_in : List ℕ → Heap
heap_in l = record { objects = list OBJECTS (object_of l); roots = list NODES (roots_of l) }

-- for each object of p, whether its directory has RC above 0 or MsgCtr not 0
unfoldable pub counted_in : List ℕ → ℕ → List Bool
counted_in l p = list OWNED (λ k. not (is_clear (entry_of l p (OWNED * p + k))))

-- for each object of another node, whether p has an entry for it with Presence true; for its own objects p has directories, which have no Presence
abbrev pub present_of : List ℕ → ℕ → ℕ → Bool
present_of l p o = not (owned_by p o) and is_present (entry_of l p o)

unfoldable pub present_in : List ℕ → ℕ → Marks
present_in l p = list OBJECTS (present_of l p)

-- ---- what is decided

-- the objects of p that are kept
abbrev pub kept_in : Heap → List Bool → ℕ → Marks
kept_in x counted p = reached x (owned_by p) (heap.roots_of x p ++ pointed p counted)

-- all that a root of p or a kept object of p holds
abbrev pub held_in : Heap → Marks → ℕ → Marks
held_in x marks p = list OBJECTS (holds (heap.roots_of x p ++ held_by x marks))

-- refused: nothing goes and nothing changes
abbrev pub refused_sweep : ℕ → Sweep
refused_sweep number = record { answer = number; reclaimed = 0; gone = unmarked; unused = unmarked }

-- an object of another node that p has marked as present and that nothing at p holds
abbrev pub is_unused : ℕ → Marks → Marks → ℕ → Bool
is_unused p held present o = not (owned_by p o) and not (is_marked held o) and is_marked present o

-- the objects that go, and the other nodes' objects whose entry at p is no longer used
abbrev pub swept_with : Heap → Marks → Marks → ℕ → Sweep
swept_with x present marks p = record {
  answer = ACCEPTED;
  reclaimed = how_many OBJECTS (reclaims x p marks);
  gone = list OBJECTS (reclaims x p marks);
  unused = list OBJECTS (is_unused p (held_in x marks p) present);
}

unfoldable pub sweep_with : Heap → Marks → Marks → ℕ → Sweep
sweep_with x present marks p = answered refused_sweep ((TORN when not (is_whole x p present marks)) ∷ []) (swept_with x present marks p)

-- what isn't a node is refused
unfoldable pub sweep_of : List ℕ → ℕ → Sweep
sweep_of l p =
    answered refused_sweep
    ((EVENT when not (ltb p NODES)) ∷ [])
    (sweep_with (heap_in l) (present_in l p) (kept_in (heap_in l) (counted_in l p) p) p)

-- ---- the changes that follow, in the order of the image

-- own object number k goes, and its directory with it
abbrev pub object_gone : List ℕ → ℕ → Marks → ℕ → Change
object_gone l p gone k = if is_marked gone (OWNED * p + k) then at (object_spot l (OWNED * p + k)) (OWNED * p + k) 0 h.Nothing else Same

abbrev pub directory_gone : List ℕ → ℕ → Marks → ℕ → Change
directory_gone l p gone k =
    if is_marked gone (OWNED * p + k) then at (entry_spot_in l p (OWNED * p + k)) p (OWNED * p + k) h.Nothing else Same

-- the entry of another's object at p gets Presence false
abbrev pub entry_unused : List ℕ → ℕ → Marks → ℕ → Change
entry_unused l p unused o = if is_marked unused o then at (entry_spot_in l p o) p o (h.Entry (set_unused (entry_of l p o))) else Same

unfoldable pub sweep_changes : ℕ → List ℕ → ℕ → Sweep → List Change
sweep_changes n l p s =
    To 0 8 0 0 (h.Count n)
    ∷ (list OWNED (object_gone l p s.gone) ++ (list OWNED (directory_gone l p s.gone) ++ list OBJECTS (entry_unused l p s.unused)))
