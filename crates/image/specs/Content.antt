-- What a record's numbers mean: whether the shape allows them, and the table with them in it (document 01, "Saved image", the payloads and
-- 24 VALUE). Definitions only; assumes nothing.
use Rattle.std.specs.Prelude.{Bool, true, false, List, ℕ, ltb, leb, eqb, get_or, set, take, drop}
use Rattle.terms.specs.Choose.{◌and◌}
use Rattle.terms.specs.Limits.{NODES, OBJECTS, PLACES, FIELDS, ROOTS, owner}
use Rattle.entry.specs.declared.Entry.{Entry}
use Rattle.entry.specs.declared.Entry.TheVariants.{AtOwner, Elsewhere}
use Rattle.entry.specs.Entry.{returns, weight}
use Rattle.entry.specs.Acts.{directory}
use Rattle.entry.specs.Fits.{fits_entry}
use Rattle.heap.specs.declared.Object.{Object}
use Rattle.heap.specs.declared.Roots.{Roots}
use Rattle.heap.specs.Heap.{fits_object, fits_roots, with_object}
use Rattle.table.specs.declared.Message as message
use Rattle.table.specs.declared.Message.TheVariants as m
use Rattle.table.specs.declared.Table.{Table}
use Rattle.table.specs.Shape.{fits_count, fits_message}
use Rattle.table.specs.Table.{with_count, with_entry, with_heap, with_message}
use Rattle.image.specs.declared.RecordKind.{RecordKind}
use Rattle.image.specs.declared.RecordKind.TheVariants.{Count, Live, NodeRoots, Directory, Reference, Decrement, End, Unknown}
use Rattle.image.specs.declared.RecordKind.TheVariants.{Remote as RemoteEntry}
use Rattle.terms.specs.Bytes.{signed}

-- the number at a position of the payload
abbrev pub number : List ℕ → ℕ → ℕ
number ns i = get_or ns i 0

-- ---- what the payloads stand for

-- live object, four fields
abbrev pub live_object : List ℕ → Object
live_object ns = record { live = true; fields = take FIELDS (drop 1 ns) }

-- node, eight roots
abbrev pub roots_of_node : List ℕ → Roots
roots_of_node ns = record { at = take ROOTS (drop 1 ns) }

-- object, RC, MsgCtr
abbrev pub directory_entry : List ℕ → Entry
directory_entry ns = AtOwner (directory (number ns 1) (returns (signed (number ns 2))))

-- node, object, RC, Parent, Presence, MsgCtr, RefWeight
abbrev pub remote_entry : List ℕ → Entry
remote_entry ns = Elsewhere (record {
  rc = number ns 2;
  parent = number ns 3;
  presence = eqb (number ns 4) 1;
  msg_ctr = returns (signed (number ns 5));
  ref_weight = weight (number ns 6);
})

-- place, from, to, object
abbrev pub reference_message : List ℕ → message.Message
reference_message ns = m.Reference (number ns 1) (number ns 2) (number ns 3)

-- place, from, to, object, m, n
abbrev pub decrement_message : List ℕ → message.Message
decrement_message ns = m.Decrement (number ns 1) (number ns 2) (number ns 3) (returns (signed (number ns 4))) (weight (number ns 5))

-- ---- whether the shape allows them

unfoldable pub fits_record : RecordKind → List ℕ → Bool
fits_record Count ns = fits_count (number ns 0)
fits_record Live ns = ltb (number ns 0) OBJECTS and fits_object (live_object ns)
fits_record NodeRoots ns = ltb (number ns 0) NODES and fits_roots (roots_of_node ns)
fits_record Directory ns = ltb (number ns 0) OBJECTS and fits_entry (owner (number ns 0)) (number ns 0) (directory_entry ns)
fits_record RemoteEntry ns =
    ltb (number ns 0) NODES
    and ltb (number ns 1) OBJECTS
    and leb (number ns 4) 1
    and fits_entry (number ns 0) (number ns 1) (remote_entry ns)
fits_record Reference ns = ltb (number ns 0) PLACES and fits_message (reference_message ns)
fits_record Decrement ns = ltb (number ns 0) PLACES and fits_message (decrement_message ns)
fits_record End ns = true
fits_record Unknown ns = false

-- ---- the table with them in it

unfoldable pub with_record : Table → RecordKind → List ℕ → Table
with_record t Count ns = with_count t (number ns 0)
with_record t Live ns = with_heap t (with_object t.heap (number ns 0) (live_object ns))
with_record t NodeRoots ns = with_heap t (record { objects = t.heap.objects; roots = set t.heap.roots (number ns 0) (roots_of_node ns) })
with_record t Directory ns = with_entry t (owner (number ns 0)) (number ns 0) (directory_entry ns)
with_record t RemoteEntry ns = with_entry t (number ns 0) (number ns 1) (remote_entry ns)
with_record t Reference ns = with_message t (number ns 0) (reference_message ns)
with_record t Decrement ns = with_message t (number ns 0) (decrement_message ns)
with_record t End ns = t
with_record t Unknown ns = t
