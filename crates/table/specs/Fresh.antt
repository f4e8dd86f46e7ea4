-- The fresh table (document 01, "The field table"): what stands in it, spot by spot; it is formed and in shape. Assumes nothing.
use Rattle.std.specs.Prelude.{◌≡◌, refl, true, false, [], ℕ, ◌<◌, length, replicate}
use Rattle.std.proofs.Common.{ap, ◌∙◌}
use Rattle.std.proofs.lemmas.List.{get_or-replicate, length-replicate}
use Rattle.terms.specs.Counted.{every_from}
use Rattle.terms.specs.Limits.{NODES, OBJECTS, PLACES, ROOTS, NONE}
use Rattle.entry.specs.declared.Entry.TheVariants.{Absent}
use Rattle.entry.specs.Fits.{fits_entry}
use Rattle.heap.specs.declared.Roots.{Roots}
use Rattle.heap.specs.Heap.{fits_roots, fresh_heap, idle, object_at, roots_at}
use Rattle.table.specs.declared.Cell.{Cell}
use Rattle.table.specs.declared.Message.TheVariants.{Empty}
use Rattle.table.specs.declared.Place.{Place}
use Rattle.table.specs.declared.Slot.{Slot}
use Rattle.table.specs.Formed.{Formed}
use Rattle.table.specs.Good.{Good, good_formed, good_shape, idle_good}
use Rattle.table.specs.Shape.{fits_message, fits_table}
use Rattle.table.specs.Table.{cell_at, entry_at, entry_in, fresh_table, message_at}

-- ---- what stands in it

-- no object is live
pub fresh_object : (o : ℕ) → o < OBJECTS → object_at fresh_heap o ≡ idle
fresh_object o object = get_or-replicate OBJECTS o idle (record { live = false; fields = [] }) object

-- eight empty roots
abbrev no_roots : Roots
no_roots = record { at = replicate ROOTS NONE }

-- every node has them
pub fresh_roots : (p : ℕ) → p < NODES → roots_at fresh_heap p ≡ no_roots
fresh_roots p node = get_or-replicate NODES p no_roots (record { at = [] }) node

-- a cell without an entry
abbrev no_entries : Cell
no_entries = record { at = replicate NODES (record { held = Absent }) }

-- every object has it
fresh_cell : (o : ℕ) → o < OBJECTS → cell_at fresh_table o ≡ no_entries
fresh_cell o object = get_or-replicate OBJECTS o no_entries (record { at = [] }) object

-- so no entry stands in it
pub fresh_entry : (p o : ℕ) → p < NODES → o < OBJECTS → entry_at fresh_table p o ≡ Absent
fresh_entry p o node object =
    ap (λ (c : Cell). entry_in c p) (fresh_cell o object)
    ∙ ap (λ (s : Slot). s.held) (get_or-replicate NODES p (record { held = Absent }) (record { held = Absent }) node)

-- and no message
pub fresh_message : (s : ℕ) → s < PLACES → message_at fresh_table s ≡ Empty
fresh_message s place = ap (λ (x : Place). x.held) (get_or-replicate PLACES s (record { held = Empty }) (record { held = Empty }) place)

-- ---- formed and in shape

pub fresh_good : Good fresh_table
unfolding fits_roots fits_entry fits_message every_from
fresh_good = record {
  count = refl;
  heap = record {
    objects = length-replicate OBJECTS idle;
    object = λ o object. rw (fresh_object o object) idle_good;
    nodes = length-replicate NODES no_roots;
    roots = λ p node. rw (fresh_roots p node) (record { size = refl; fits = refl });
  };
  cells = record {
    size = length-replicate OBJECTS no_entries;
    cell = λ o object. record {
      size = ap (λ (c : Cell). length c.at) (fresh_cell o object);
      fits = λ p node. ap (fits_entry p o) (fresh_entry p o node object);
    };
  };
  air = record { size = length-replicate {A = Place} PLACES (record { held = Empty }); fits = λ s place. ap fits_message (fresh_message s place) };
}

-- every array has its length
pub fresh_formed : Formed fresh_table
fresh_formed = good_formed fresh_good

-- and every number is in its range
pub fresh_shape : fits_table fresh_table ≡ true
fresh_shape = good_shape fresh_good
