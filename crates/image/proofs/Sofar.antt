-- The table while an image is read: how much of what was written stands in it by then. Assumes nothing.
use Rattle.std.specs.Prelude.{◌≡◌, refl, Bool, true, false, [], ℕ, ◌+◌, ◌*◌, ltb, eqb, get_or}
use Rattle.terms.specs.Choose.{◌and◌, ◌or◌}
use Rattle.terms.specs.Limits.{owner}
use Rattle.terms.proofs.ListLaws.{Filled}
use Rattle.entry.specs.declared.Entry.TheVariants.{Absent}
use Rattle.heap.specs.declared.Object.{Object}
use Rattle.heap.specs.declared.Roots.{Roots}
use Rattle.heap.specs.Heap.{object_at, roots_at}
use Rattle.table.specs.declared.Place.{Place}
use Rattle.table.specs.declared.Message.TheVariants as m
use Rattle.table.specs.declared.Table.{Table}
use Rattle.table.specs.Table.{fresh_table}
use Rattle.image.proofs.CellLaws.{Cells, shown_of}

abbrev pub no_object : Object
no_object = record { live = false; fields = [] }

abbrev pub no_roots : Roots
no_roots = record { at = [] }

abbrev pub no_place : Place
no_place = record { held = m.Empty }

-- the table so far: io objects, ir nodes' roots, the entries shown and is places are the table's, and the rest is fresh
pub record Sofar (t : Table) (io ir : ℕ) (shown : ℕ → ℕ → Bool) (is : ℕ) (x : Table) : Type 0 where
  pub count : x.count ≡ t.count
  pub objects : Filled no_object (object_at t.heap) fresh_table.heap.objects io x.heap.objects
  pub roots : Filled no_roots (roots_at t.heap) fresh_table.heap.roots ir x.heap.roots
  pub cells : Cells t shown x.cells
  pub air : Filled no_place (λ s. get_or t.air s no_place) fresh_table.air is x.air

-- ---- the entries shown

abbrev pub none : ℕ → ℕ → Bool
none p o = false

-- the directories of the objects below k
abbrev pub directories_below : ℕ → ℕ → ℕ → Bool
directories_below k p o = ltb o k and eqb p (owner o)

-- all directories, and the remote entries of the nodes and objects before a key
abbrev pub entries_below : ℕ → ℕ → ℕ → Bool
entries_below key p o = eqb p (owner o) or ltb (256 * p + o) key

pub and-false : (b : Bool) → (b and false) ≡ false
and-false true = refl
and-false false = refl

pub or-true : (b : Bool) → (b or true) ≡ true
or-true true = refl
or-true false = refl

pub shown_absent : (b : Bool) → shown_of b Absent ≡ Absent
shown_absent true = refl
shown_absent false = refl
