-- Tables that are formed and in shape, part by part: heap, cells, air and count; and that to write a thing that fits into a good part leaves it
-- good. Assumes nothing.
use Rattle.std.specs.Prelude.{◌≡◌, refl, true, false, List, [], ℕ, ◌<◌, length, get_or, set}
use Rattle.std.proofs.Common.{◌∙◌, length-set}
use Rattle.terms.specs.Counted.{every_from}
use Rattle.terms.specs.Limits.{NODES, OBJECTS, PLACES, FIELDS, ROOTS}
use Rattle.terms.proofs.SetLaws.{every_set, set_all}
use Rattle.entry.specs.declared.Entry.{Entry}
use Rattle.entry.specs.declared.Entry.TheVariants.{Absent}
use Rattle.entry.specs.Fits.{fits_entry}
use Rattle.heap.specs.declared.Heap.{Heap}
use Rattle.heap.specs.declared.Object.{Object}
use Rattle.heap.specs.declared.Roots.{Roots}
use Rattle.heap.specs.Heap.{born, fits_field, fits_name, fits_object, fits_roots, idle, is_live, object_at, roots_at, with_field, with_object, with_root}
use Rattle.table.specs.declared.Cell.{Cell}
use Rattle.table.specs.declared.Message.{Message}
use Rattle.table.specs.declared.Message.TheVariants.{Empty}
use Rattle.table.specs.declared.Place.{Place}
use Rattle.table.specs.declared.Table.{Table}
use Rattle.table.specs.Formed.{Formed}
use Rattle.table.specs.Shape.{fits_count, fits_message, fits_table}
use Rattle.table.specs.Table.{cell_with, entry_in}
use Rattle.table.specs.ShapeLaws.{Shaped, in_shape}

-- ---- the parts

-- four fields, each empty or a name, and empty where the object isn't live
pub record GoodObject (x : Object) : Type 0 where
  pub size : length x.fields ≡ FIELDS
  pub fits : fits_object x ≡ true

-- eight roots, each empty or a name
pub record GoodRoots (x : Roots) : Type 0 where
  pub size : length x.at ≡ ROOTS
  pub fits : fits_roots x ≡ true

-- an entry of object o for each node, each in shape
pub record GoodCell (o : ℕ) (c : Cell) : Type 0 where
  pub size : length c.at ≡ NODES
  pub fits : (p : ℕ) → p < NODES → fits_entry p o (entry_in c p) ≡ true

-- 64 objects and eight nodes' roots
pub record GoodHeap (h : Heap) : Type 0 where
  pub objects : length h.objects ≡ OBJECTS
  pub object : (o : ℕ) → o < OBJECTS → GoodObject (object_at h o)
  pub nodes : length h.roots ≡ NODES
  pub roots : (p : ℕ) → p < NODES → GoodRoots (roots_at h p)

-- a cell for each object
pub record GoodCells (cs : List Cell) : Type 0 where
  pub size : length cs ≡ OBJECTS
  pub cell : (o : ℕ) → o < OBJECTS → GoodCell o (get_or cs o (record { at = [] }))

-- 64 places, each empty or with a message in shape
pub record GoodAir (ps : List Place) : Type 0 where
  pub size : length ps ≡ PLACES
  pub fits : (s : ℕ) → s < PLACES → fits_message (get_or ps s (record { held = Empty })).held ≡ true

-- formed and in shape
pub record Good (t : Table) : Type 0 where
  pub count : fits_count t.count ≡ true
  pub heap : GoodHeap t.heap
  pub cells : GoodCells t.cells
  pub air : GoodAir t.air

-- ---- the whole

-- put together
pub is_good : (t : Table) → Formed t → Shaped t → Good t
is_good t formed shape = record {
  count = shape.count;
  heap = record {
    objects = formed.objects;
    object = λ o number. record { size = formed.fields o number; fits = shape.objects o number };
    nodes = formed.nodes;
    roots = λ p number. record { size = formed.roots p number; fits = shape.roots p number };
  };
  cells = record {
    size = formed.cells;
    cell = λ o number. record { size = formed.entries o number; fits = λ p node. shape.entries p o node number };
  };
  air = record { size = formed.places; fits = shape.messages };
}

module _ {t : Table} (g : Good t) where
  -- every array has its length
  pub good_formed : Formed t
  good_formed = record {
    objects = g.heap.objects;
    fields = λ o number. (g.heap.object o number).size;
    nodes = g.heap.nodes;
    roots = λ p number. (g.heap.roots p number).size;
    cells = g.cells.size;
    entries = λ o number. (g.cells.cell o number).size;
    places = g.air.size;
  }

  -- and every number is in its range
  pub good_shaped : Shaped t
  good_shaped = record {
    count = g.count;
    objects = λ o number. (g.heap.object o number).fits;
    roots = λ p number. (g.heap.roots p number).fits;
    entries = λ p o node number. (g.cells.cell o number).fits p node;
    messages = g.air.fits;
  }

  -- so the table is in shape
  pub good_shape : fits_table t ≡ true
  good_shape = in_shape t good_shaped

-- ---- objects without names

-- an object just made
pub born_good : GoodObject born
unfolding fits_object every_from
born_good = record { size = refl; fits = refl }

-- and one that isn't live
pub idle_good : GoodObject idle
unfolding fits_object every_from
idle_good = record { size = refl; fits = refl }

-- ---- one thing written

-- an object
pub object_set : {h : Heap} (o : ℕ) (x : Object) → GoodHeap h → GoodObject x → GoodHeap (with_object h o x)
object_set {h} o x g fits = record {
  objects = length-set h.objects o x ∙ g.objects;
  object = λ a low. set_all (λ j y. GoodObject y) h.objects o x (record { live = false; fields = [] }) fits a (g.object a low);
  nodes = g.nodes;
  roots = g.roots;
}

-- a field of a live object
pub field_set : {h : Heap} (o f x : ℕ) → GoodHeap h → o < OBJECTS → is_live h o ≡ true → fits_name x ≡ true → GoodHeap (with_field h o f x)
unfolding fits_object
field_set {h} o f x g object live fits = object_set o (record { live = is_live h o; fields = set old f x }) g (record {
  size = length-set old f x ∙ (g.object o object).size;
  fits = every_set FIELDS (fits_field (is_live h o)) old f x (rw live fits) (g.object o object).fits;
})
  where
    old : List ℕ
    old = (object_at h o).fields

-- the roots of a node
pub roots-set : {h : Heap} (p : ℕ) (x : Roots) → GoodHeap h → GoodRoots x → GoodHeap (record { objects = h.objects; roots = set h.roots p x })
roots-set {h} p x g fits = record {
  objects = g.objects;
  object = g.object;
  nodes = length-set h.roots p x ∙ g.nodes;
  roots = λ a low. set_all (λ j y. GoodRoots y) h.roots p x (record { at = [] }) fits a (g.roots a low);
}

-- one of them
pub root_set : {h : Heap} (p r x : ℕ) → GoodHeap h → p < NODES → fits_name x ≡ true → GoodHeap (with_root h p r x)
unfolding fits_roots
root_set {h} p r x g node fits = roots-set p (record { at = set old r x }) g (record {
  size = length-set old r x ∙ (g.roots p node).size;
  fits = every_set ROOTS fits_name old r x fits (g.roots p node).fits;
})
  where
    old : List ℕ
    old = (roots_at h p).at

-- an entry in its cell
pub cell_good : {o : ℕ} {c : Cell} (p : ℕ) (e : Entry) → GoodCell o c → fits_entry p o e ≡ true → GoodCell o (cell_with c p e)
cell_good {o} {c} p e g fits = record {
  size = length-set c.at p (record { held = e }) ∙ g.size;
  fits = λ q low. set_all (λ j y. fits_entry j o y.held ≡ true) c.at p (record { held = e }) (record { held = Absent }) fits q (g.fits q low);
}

-- an entry
pub entry_set : {cs : List Cell} (p o : ℕ) (e : Entry) → GoodCells cs → o < OBJECTS → fits_entry p o e ≡ true
    → GoodCells (set cs o (cell_with (get_or cs o (record { at = [] })) p e))
entry_set {cs} p o e g object fits = record {
  size = length-set cs o new ∙ g.size;
  cell = λ a low. set_all (λ j y. GoodCell j y) cs o new (record { at = [] }) (cell_good p e (g.cell o object) fits) a (g.cell a low);
}
  where
    new : Cell
    new = cell_with (get_or cs o (record { at = [] })) p e

-- a message
pub air_set : {ps : List Place} (s : ℕ) (m : Message) → GoodAir ps → fits_message m ≡ true → GoodAir (set ps s (record { held = m }))
air_set {ps} s m g fits = record {
  size = length-set ps s (record { held = m }) ∙ g.size;
  fits = λ a low. set_all (λ j y. fits_message y.held ≡ true) ps s (record { held = m }) (record { held = Empty }) fits a (g.fits a low);
}
