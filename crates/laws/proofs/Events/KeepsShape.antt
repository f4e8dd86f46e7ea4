-- Every accepted event leaves a formed table formed and in shape (document 01, "Shape"): `keeps_form`, `keeps_shape`. The refusals are what
-- makes it true: EVENT for operands, TORN for a count that would leave its range. Assumes nothing.
use Rattle.std.specs.Prelude.{◌≡◌, Bool, ℕ, ◌+◌, ◌<◌, if◌then◌else◌}
use Rattle.std.proofs.Math.Path.{refl, sym}
use Rattle.std.proofs.Common.{ap, ◌∙◌, arith, le-leb, lt-ltb}
use Rattle.std.proofs.Math.Bool.{true, false}
use Rattle.terms.specs.Limits.{EVENTS, MOST, NODES, OBJECTS, NONE}
use Rattle.terms.proofs.ListLaws.{length_list}
use Rattle.terms.specs.Numbers.{ACCEPTED}
use Rattle.entry.specs.declared.Remote.{Remote}
use Rattle.entry.specs.declared.Entry.{Entry}
use Rattle.entry.specs.declared.Entry.TheVariants.{Absent, Elsewhere}
use Rattle.entry.specs.AtNode.{set_unused}
use Rattle.entry.specs.Fits.{fits_entry}
use Rattle.entry.specs.FitsLaws.{away}
use Rattle.heap.specs.declared.Heap.{Heap}
use Rattle.heap.specs.Heap.{born, field_at, fits_name, idle, object_at, root_at, with_root}
use Rattle.table.specs.declared.Cell.{Cell}
use Rattle.table.specs.declared.Message.{Message}
use Rattle.table.specs.declared.Table.{Table}
use Rattle.table.specs.Formed.{Formed}
use Rattle.table.specs.Good.{Good, GoodCell, GoodHeap, GoodObject}
use Rattle.table.specs.Good.{air_set, born_good, cell_good, entry_set, field_set, good_formed, good_shape, idle_good, is_good, object_set, root_set}
use Rattle.table.specs.Shape.{fits_count, fits_message, fits_table}
use Rattle.table.specs.ShapeLaws.{Shaped, Way, field_name, fits_way_lem, object_name, reference_way, root_name, root_object, shaped}
use Rattle.table.specs.Table.{cell_at, entry_at, with_heap}
use Rattle.step.specs.declared.Event.{Event}
use Rattle.step.specs.Collect.{heap_collected}
use Rattle.step.specs.Drop.{last_words}
use Rattle.step.specs.New.{chosen}
use Rattle.step.specs.Receive.{reply}
use Rattle.step.specs.Step.{step}
use Rattle.laws.specs.Events.Answered.{counting}
use Rattle.laws.proofs.Events.Answered.{met}
use Rattle.laws.specs.Events.Did.{Did}
use Rattle.laws.proofs.Events.DidLaws.{did}
use Rattle.laws.proofs.Events.EntryFits.{received_fits, sent_fits, settled_fits, unused_fits}
use Rattle.laws.proofs.Events.Writes.{Writes, reply_either, writes_clear, writes_drop, writes_receive, writes_send, writes_settle}
use Rattle.laws.proofs.Heap.Collected.{Changed, changed, collected, is_gone, object_after}

-- ---- messages

-- what a receipt leaves in the place
reply_fits : (from to o : ℕ) (e : Entry) → Way from to o → fits_message (reply from to o e) ≡ true
unfolding fits_message
reply_fits from to o e w =
    let back = fits_way_lem (record { sender = w.receiver; receiver = w.sender; away = λ q. w.away (sym q); object = w.object }) in
    reply_either (λ m. fits_message m ≡ true) from to o e refl (rw back)

-- the last words of a remote entry
last_words_fit : (p o : ℕ) (e : Remote) → p < NODES → o < OBJECTS → fits_entry p o (Elsewhere e) ≡ true → fits_message (last_words p o e) ≡ true
unfolding fits_message
last_words_fit p o e node object fits =
    let a = away p o e fits in
    let w : Way p e.parent o =
    record { sender = node; receiver = a.parts.parent; away = λ q. a.under (sym q); object = object } in
    rw (fits_way_lem w, a.parts.returns, lt-ltb 0 e.ref_weight.0 a.parts.positive, le-leb e.ref_weight.0 MOST a.parts.weight)

-- ---- COLLECT

module _ {t : Table} (g : Good t) (p : ℕ) where
  -- reclaimed objects are idle, the others as they were
  collected-heap : GoodHeap (collected t p).heap
  unfolding heap_collected
  collected-heap = record {
    objects = length_list 0 OBJECTS _;
    object = λ o number. rw (object_after t p o number) (one (is_gone t p o) o number);
    nodes = g.heap.nodes;
    roots = g.heap.roots;
  }
    where
      one : (gone : Bool) (o : ℕ) → o < OBJECTS → GoodObject (if gone then idle else object_at t.heap o)
      one true o number = idle_good
      one false o number = g.heap.object o number

  -- an entry goes or is set unused
  collected_cell : p < NODES → (o : ℕ) → o < OBJECTS → GoodCell o (cell_at (collected t p) o)
  unfolding fits_entry
  collected_cell node o number = go (cell_at (collected t p) o) (changed t p o number)
    where
      old : GoodCell o (cell_at t o)
      old = g.cells.cell o number

      go : (c : Cell) → Changed t p o c → GoodCell o c
      go c (Changed.kept_cell stays) = old
      go c (Changed.gone_cell gone) = cell_good p Absent old refl
      go c (Changed.unused_cell stays away idle) =
          cell_good p (set_unused (entry_at t p o)) old (unused_fits p o (entry_at t p o) (old.fits p node))

-- ---- every event

module _ {t : Table} (g : Good t) (shape : Shaped t) (before_end : t.count < EVENTS) where
  -- the count has room for one more
  counted : fits_count (t.count + 1) ≡ true
  counted = le-leb (t.count + 1) EVENTS (omega arith)

  -- where what is written fits
  written : {u : Table} {x p s : ℕ} {f : Entry} {y : Message} → u.count ≡ t.count + 1 → GoodHeap u.heap → Writes t u x p s f y
      → fits_entry p x f ≡ true → fits_message y ≡ true → Good u
  written {u} {x} {p} {s} {f} {y} count heap writes entry message =
      record {
        count = rw count counted;
        heap = heap;
        cells = rw writes.cells (entry_set p x f g.cells writes.object entry);
        air = rw writes.air (air_set s y g.air message);
      }

  -- where the new heap is good
  arranged : {h : Heap} → GoodHeap h → Good (counting t (with_heap t h))
  arranged heap = record { count = counted; heap = heap; cells = g.cells; air = g.air }

  -- where the new root is a name
  rooted : (p r x : ℕ) → p < NODES → fits_name x ≡ true → Good (counting t (with_heap t (with_root t.heap p r x)))
  rooted p r x node fits = arranged (root_set p r x g.heap node fits)

  -- by cases of what the event did
  keeps : {e : Event} {u : Table} → Did t e u → Good u
  unfolding fits_entry fits_message
  keeps {e} (Did.new kind free) =
      let o : chosen t e.a < OBJECTS = omega (arith, free.node, free.room) in
      let made = object_set (chosen t e.a) born g.heap born_good in
      arranged (root_set e.a e.b (chosen t e.a) made free.node (object_name (chosen t e.a) o))
  keeps {e} (Did.move kind a b c) = rooted e.a e.b (root_at t.heap e.a e.c) a (root_name t shape e.a e.c a c)
  keeps {e} (Did.clear kind a b) = rooted e.a e.b NONE a refl
  keeps {e} (Did.load kind a b c d reach) =
      let o = root_at t.heap e.a e.c in
      let object = root_object t shape e.a e.c a c reach.named in
      rooted e.a e.b (field_at t.heap o e.d) a (field_name t shape o e.d object d reach.live)
  keeps {e} (Did.store kind a b c d reach) =
      let o = root_at t.heap e.a e.b in
      let object = root_object t shape e.a e.b a b reach.named in
      arranged (field_set o e.c (root_at t.heap e.a e.d) g.heap object reach.live (root_name t shape e.a e.d a d))
  keeps {e} (Did.send kind free) =
      let o = root_at t.heap e.a e.b in
      let writes = writes_send shape free in
      written refl g.heap writes (sent_fits e.a o e.c (entry_at t e.a o) (shape.entries e.a o free.node writes.object))
      (fits_way_lem (record { sender = free.node; receiver = free.receiver; away = free.away; object = writes.object }))
  keeps {e} (Did.receive {from} {to} {o} kind free) =
      let writes = writes_receive shape {r = e.b} free in
      let way = reference_way t shape e.a free.place free.there in
      let entry = shape.entries to o way.receiver way.object in
      written refl (root_set to e.b o g.heap way.receiver (object_name o way.object)) writes
      (received_fits to o from (entry_at t to o) way.sender way.away entry) (reply_fits from to o (entry_at t to o) way)
  keeps {e} (Did.settle {from} {to} {o} {m} {n} kind free) =
      let writes = writes_settle shape free in
      written refl g.heap writes (settled_fits to o m n (entry_at t to o) (shape.entries to o writes.node writes.object)) refl
  keeps {e} (Did.collect kind free) = record {
    count = counted;
    heap = collected-heap g e.a;
    cells = record { size = length_list 0 OBJECTS _; cell = collected_cell g e.a free.node };
    air = g.air;
  }
  keeps {e} (Did.drop_directory kind free) = written refl g.heap (writes_clear free) refl (shape.messages 0 (omega arith))
  keeps {e} (Did.drop_remote {x} kind free room) =
      let entry = sym (ap (fits_entry e.a e.b) free.there) ∙ shape.entries e.a e.b free.node free.object in
      written refl g.heap (writes_drop free room) refl (last_words_fit e.a e.b x free.node free.object entry)

module _ (t : Table) (e : Event) (formed : Formed t) (accepted : (step t e).answer ≡ ACCEPTED) where
  -- formed and in shape after every accepted event
  keeps_good : Good (step t e).table
  keeps_good =
      let known = met t e accepted in
      let shape = shaped t known.shape in
      keeps (is_good t formed shape) shape known.before_end (did t e accepted)

  -- every array keeps its length
  pub keeps_form : Formed (step t e).table
  keeps_form = good_formed keeps_good

  -- and every number stays in its range
  pub keeps_shape : fits_table (step t e).table ≡ true
  keeps_shape = good_shape keeps_good
