-- How far the owner is along Parent, and the report of it (document 01, law C). Definitions only; assumes nothing.
use Rattle.std.specs.Prelude.{ℕ, zero, suc, ◌+◌, ltb, if◌then◌else◌, Option, Some, None}
use Rattle.terms.specs.Choose.{◌and◌}
use Rattle.terms.specs.Limits.{NODES, OBJECTS, STEPS, UNREACHED}
use Rattle.entry.specs.declared.Entry.{Entry}
use Rattle.entry.specs.declared.Entry.TheVariants.{Absent, AtOwner, Elsewhere}
use Rattle.table.specs.declared.Table.{Table}
use Rattle.table.specs.Table.{entry_at}
use Rattle.table.specs.Shape.{fits_table}

-- so many steps to the owner, or a way that does not reach it
pub data Depth : Type 0 where
  Steps : ℕ → Depth
  NotReached : Depth

-- the depth that a function tells: a number of steps, or none
abbrev pub depth_of : Option ℕ → Depth
depth_of (Some d) = Steps d
depth_of None = NotReached

-- one step further from the owner
abbrev pub further : Depth → Depth
further (Steps d) = Steps (d + 1)
further NotReached = NotReached

-- from what stands at a node: a directory ends the way, a remote entry goes on at its Parent
abbrev pub onward : Entry → (ℕ → Depth) → Depth
onward Absent go = NotReached
onward (AtOwner d) go = Steps 0
onward (Elsewhere e) go = further (go e.parent)

-- from node p, by at most n steps
unfoldable pub depth_by : ℕ → Table → ℕ → ℕ → Depth
depth_by zero t o p = onward (entry_at t p o) (λ q. NotReached)
depth_by (suc n) t o p = onward (entry_at t p o) (λ q. depth_by n t o q)

-- the depth of object o at node p
abbrev pub depth : Table → ℕ → ℕ → Depth
depth t p o = depth_by STEPS t o p

-- the number that a depth is reported by
abbrev pub depth_number : Depth → ℕ
depth_number (Steps d) = d
depth_number NotReached = UNREACHED

-- the report: 255 for a number outside its range or a table that breaks the shape, too
unfoldable pub depth_report : Table → ℕ → ℕ → ℕ
depth_report t p o = if ltb p NODES and ltb o OBJECTS and fits_table t then depth_number (depth t p o) else UNREACHED
