-- COLLECT P: local collection (document 01, COLLECT). Definitions only; assumes nothing.
use Rattle.std.specs.Prelude.{Bool, not, List, [], ◌∷◌, ◌++◌, ℕ, ◌+◌, ◌*◌, if◌then◌else◌}
use Rattle.terms.specs.Choose.{◌when◌, ◌and◌, ◌or◌}
use Rattle.terms.specs.Counted.{all, every, holds, how_many, list}
use Rattle.terms.specs.Limits.{OBJECTS, OWNED}
use Rattle.terms.specs.Numbers.{TORN}
use Rattle.entry.specs.Entry.{is_clear, is_present}
use Rattle.entry.specs.declared.Entry.TheVariants.{Absent}
use Rattle.entry.specs.AtNode.{set_unused}
use Rattle.heap.specs.declared.Heap.{Heap}
use Rattle.heap.specs.Heap.{idle, object_at, is_live, is_none, roots_of}
use Rattle.heap.specs.Walk.{Marks, is_marked, owned_by, pointed, held_by, reached}
use Rattle.table.specs.declared.Cell.{Cell}
use Rattle.table.specs.declared.Table.{Table}
use Rattle.table.specs.Table.{cell_at, cell_with, entry_at, entry_in, with_cells, with_heap}
use Rattle.step.specs.Deed.{Collected}
use Rattle.step.specs.Outcome.{Rule, did}

-- for each object of p, whether its directory has RC above 0 or MsgCtr not 0
unfoldable pub counted : Table → ℕ → List Bool
counted t p = list OWNED (λ k. not (is_clear (entry_at t p (OWNED * p + k))))

-- where the walk starts: p's roots, and those objects
abbrev pub starts : Table → ℕ → List ℕ
starts t p = roots_of t.heap p ++ pointed p (counted t p)

-- the objects of p that are kept: started from or reached, on p only
abbrev pub kept : Table → ℕ → Marks
kept t p = reached t.heap (owned_by p) (starts t p)

-- all that a root of p or a kept object of p holds
abbrev pub held_at : Table → ℕ → Marks → List ℕ
held_at t p marks = roots_of t.heap p ++ held_by t.heap marks

-- what p may hold: nothing, an object of its own, or another's for which it has an entry with Presence true
abbrev pub may_hold : Table → ℕ → ℕ → Bool
may_hold t p x = is_none x or owned_by p x or is_present (entry_at t p x)

-- an object started from or reached isn't live, or p holds what it may not
unfoldable pub collect_torn : Table → ℕ → Marks → List ℕ → Bool
collect_torn t p marks held = not (every OBJECTS (λ o. not (is_marked marks o) or is_live t.heap o) and all (may_hold t p) held)

-- a live object of p that was not reached
abbrev pub is_reclaimed : Table → ℕ → Marks → ℕ → Bool
is_reclaimed t p marks o = owned_by p o and is_live t.heap o and not (is_marked marks o)

-- reclaimed objects stop being live, their fields emptied
unfoldable pub heap_collected : Table → ℕ → Marks → Heap
heap_collected t p marks = record {
  objects = list OBJECTS (λ o. if is_reclaimed t p marks o then idle else object_at t.heap o);
  roots = t.heap.roots;
}

-- the directory of a reclaimed object goes with it; a remote entry at p that nothing holds gets Presence false
unfoldable pub cell_collected : Table → ℕ → Marks → List ℕ → ℕ → Cell → Cell
cell_collected t p marks held o c =
    if owned_by p o
    then (if is_reclaimed t p marks o then cell_with c p Absent else c)
    else (if holds held o then c else cell_with c p (set_unused (entry_in c p)))

-- the table after the collection
abbrev pub with_collected : Table → ℕ → Marks → List ℕ → Table
with_collected t p marks held =
    with_cells (with_heap t (heap_collected t p marks)) (list OBJECTS (λ o. cell_collected t p marks held o (cell_at t o)))

-- COLLECT, given what is kept and what is held
unfoldable pub collect_holding : Table → ℕ → Marks → List ℕ → Rule
collect_holding t p marks held = record {
  refusals = (TORN when collect_torn t p marks held) ∷ [];
  effect = did (Collected (how_many OBJECTS (is_reclaimed t p marks))) (with_collected t p marks held);
}

-- COLLECT, given what is kept
unfoldable pub collect_keeping : Table → ℕ → Marks → Rule
collect_keeping t p marks = collect_holding t p marks (held_at t p marks)

abbrev pub collect : Table → ℕ → Rule
collect t p = collect_keeping t p (kept t p)
