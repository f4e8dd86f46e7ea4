-- Parts of COLLECT as the code finds them: on the heap alone, and by marks for what the table's entries say. Each comes to the definition
-- of specs/Collect.antt; specs/CollectLaws.antt has what isn't so by computation. Definitions only; assumes nothing.
use Rattle.std.specs.Prelude.{Bool, List, not, ◌++◌, ℕ, Result, Ok, Err, if◌then◌else◌}
use Rattle.terms.specs.Choose.{◌and◌, ◌or◌}
use Rattle.terms.specs.Counted.{all, every, holds, list}
use Rattle.terms.specs.Limits.{OBJECTS}
use Rattle.terms.specs.declared.Refusal.{Refusal}
use Rattle.terms.specs.declared.Refusal.TheVariants.{Torn}
use Rattle.entry.specs.Entry.{is_present}
use Rattle.heap.specs.declared.Heap.{Heap}
use Rattle.heap.specs.Heap.{idle, object_at, is_live, is_none, roots_of}
use Rattle.heap.specs.Walk.{Marks, held_by, is_marked, owned_by, pointed, reached}
use Rattle.heap.specs.declared.Marks as code
use Rattle.table.specs.declared.Table.{Table}
use Rattle.table.specs.Table.{entry_at}
use Rattle.step.specs.declared.Collection.{Collection}
use Rattle.step.specs.Collect.{kept}

-- for each object, whether p has an entry for it with Presence true
abbrev pub present_at : Table → ℕ → Marks
present_at t p = list OBJECTS (λ o. is_present (entry_at t p o))

-- what p may hold, by those marks
abbrev pub may_hold_by : Marks → ℕ → ℕ → Bool
may_hold_by present p x = is_none x or owned_by p x or is_marked present x

-- every kept object is live, and p holds only what it may
abbrev pub is_whole : Heap → ℕ → Marks → Marks → Bool
is_whole h p present marks =
    every OBJECTS (λ o. not (is_marked marks o) or is_live h o) and all (may_hold_by present p) (roots_of h p ++ held_by h marks)

-- a live object of p that was not reached
abbrev pub reclaims : Heap → ℕ → Marks → ℕ → Bool
reclaims h p marks o = owned_by p o and is_live h o and not (is_marked marks o)

-- the heap without its reclaimed objects
abbrev pub without_reclaimed : Heap → ℕ → Marks → Heap
without_reclaimed h p marks = record {
  objects = list OBJECTS (λ o. if reclaims h p marks o then idle else object_at h o);
  roots = h.roots;
}

-- the collection changes what stands for o at p: o is reclaimed, or another's, present, and not held
abbrev pub changes : Heap → ℕ → Marks → Marks → Marks → ℕ → Bool
changes h p marks present held o = if owned_by p o then reclaims h p marks o else (not (is_marked held o) and is_marked present o)

-- the part of that test which is about another's object: nothing at p holds it, and p has an entry for it with Presence true
abbrev pub is_unused : ℕ → Marks → Marks → ℕ → Bool
is_unused p present held o = not (owned_by p o) and not (is_marked held o) and is_marked present o

-- all that a root of p or a kept object of p holds, as marks
abbrev pub held_marks : Heap → ℕ → Marks → Marks
held_marks h p kept = list OBJECTS (holds (roots_of h p ++ held_by h kept))

-- what is asked of node p, which the tests `counted` point at objects of: refused as TORN where it isn't whole
unfoldable pub collection_of : Heap → ℕ → List Bool → code.Marks → Result Collection Refusal
collection_of h p counted present =
    let kept = reached h (owned_by p) (roots_of h p ++ pointed p counted) in
    if is_whole h p present.seen kept
    then Ok (record {
      heap = h;
      node = p;
      present = present;
      kept = record { seen = kept };
      held = record { seen = held_marks h p kept };
    })
    else Err Torn

-- the collection of node p of a table in which nothing is torn there
abbrev pub collection_at : Table → ℕ → Collection
collection_at t p = record {
  heap = t.heap;
  node = p;
  present = record { seen = present_at t p };
  kept = record { seen = kept t p };
  held = record { seen = held_marks t.heap p (kept t p) };
}
