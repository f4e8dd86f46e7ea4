-- Every accepted event keeps the four conditions of Sound that speak of the heap, given that a clear directory means nobody (PROOF-PLAN, "The
-- field", 2 and 3). The bridge is used for COLLECT alone. Assumes nothing.
use Rattle.std.specs.Prelude.{◌≡◌, refl, ◌≢◌, true, false, ℕ, ◌<◌}
use Rattle.std.proofs.Common.{sym, true≢false, arith, eq-eqb, eqb-true}
use Rattle.std.proofs.Math.Bool.{not-eq-not}
use Rattle.terms.specs.Limits.{NODES, OBJECTS, PLACES, ROOTS, NONE, owner}
use Rattle.terms.specs.Numbers.{ACCEPTED}
use Rattle.entry.specs.declared.Entry.{Entry}
use Rattle.entry.specs.declared.Entry.TheVariants.{Absent, AtOwner, Elsewhere}
use Rattle.entry.specs.Entry.{is_directory}
use Rattle.entry.specs.AtNode.{received}
use Rattle.entry.specs.Fits.{fits_entry}
use Rattle.entry.specs.FitsLaws.{home}
use Rattle.heap.specs.Heap.{field_at, is_live, is_none, root_at}
use Rattle.heap.proofs.HeapLaws.{live_number}
use Rattle.table.specs.declared.Message.TheVariants.{Reference}
use Rattle.table.specs.declared.Table.{Table}
use Rattle.table.specs.Formed.{Formed}
use Rattle.table.specs.ShapeLaws.{Shaped, reference_way, root_object, shaped}
use Rattle.table.specs.Table.{entry_at, message_at}
use Rattle.table.specs.TableLaws.{entry_there}
use Rattle.step.specs.declared.Event.{Event}
use Rattle.step.specs.New.{chosen}
use Rattle.step.specs.Step.{step}
use Rattle.laws.proofs.Events.Answered.{met}
use Rattle.laws.specs.Events.Did.{Did, new, move, clear, load, store, send, receive, settle, collect, drop_directory, drop_remote}
use Rattle.laws.proofs.Events.DidLaws.{did}
use Rattle.laws.proofs.Heap.AirKeeps.{clear_held, drop_held, receive_held, send_held, settle_held}
use Rattle.laws.proofs.Heap.CollectKeeps.{collect_held}
use Rattle.laws.proofs.Heap.HeapKeeps.{chosen_number, chosen_own, count_held, field_held, new_held, root_held}
use Rattle.laws.proofs.Heap.Holding.{WellHeld, well_named}
use Rattle.laws.proofs.Heap.Nobody.{Bridge}

-- in shape, a directory stands at the owner only
pub directory_at_owner : {t : Table} → Shaped t → (q o : ℕ) → q < NODES → o < OBJECTS → is_directory (entry_at t q o) ≡ true → q ≡ owner o
unfolding fits_entry
directory_at_owner {t} shape q o node number d = go (entry_at t q o) (shape.entries q o node number) d
  where
    go : (e : Entry) → fits_entry q o e ≡ true → is_directory e ≡ true → q ≡ owner o
    go Absent fits d = absurd (true≢false (sym d))
    go (AtOwner x) fits d = (home q o x fits).own
    go (Elsewhere x) fits d = absurd (true≢false (sym d))

-- so at another node there is none
pub no_directory : {t : Table} → Shaped t → (q o : ℕ) → q < NODES → o < OBJECTS → q ≢ owner o → is_directory (entry_at t q o) ≡ false
no_directory {t} shape q o node number other = not-eq-not.0 (λ d. other (directory_at_owner shape q o node number d))

-- a root that isn't empty names a live object
pub root_live : {t : Table} → WellHeld t → Shaped t → (p r : ℕ) → p < NODES → r < ROOTS → is_none (root_at t.heap p r) ≡ false
    → is_live t.heap (root_at t.heap p r) ≡ true
root_live {t} held shape p r node root named =
    (well_named t p (root_at t.heap p r) (root_object t shape p r node root named) (held.roots p r node root)).live

-- a reference in the air names a live object
pub reference_live : {t : Table} → WellHeld t → (s : ℕ) {from to o : ℕ} → s < PLACES → message_at t s ≡ Reference from to o → is_live t.heap o ≡ true
reference_live {t} held s {o = o} place there = held.references s o place (rw there (eq-eqb o o refl))

module _ {t : Table} (formed : Formed t) (shape : Shaped t) (held : WellHeld t) (bridge : Bridge t) (e : Event) where
  -- what an accepted event makes is held well
  did_held : (u : Table) → Did t e u → WellHeld u
  did_held u (new k free) = count_held _ (new_held held e.a e.b (chosen t e.a)
      (let lt = chosen_number t e.a free.room free.node in omega (arith, formed.objects)) (chosen_own t e.a free.room))
  did_held u (move k a b c) = count_held _ (root_held held e.a e.b (root_at t.heap e.a e.c) (held.roots e.a e.c a c))
  did_held u (clear k a b) = count_held _ (root_held held e.a e.b NONE refl)
  did_held u (load k a b c d reach) =
      let o = root_at t.heap e.a e.c in
      let own = eqb-true (owner o) e.a reach.own in
      let well = held.fields o e.d (live_number t.heap o formed.objects reach.live) d reach.live in
      count_held _ (root_held held e.a e.b (field_at t.heap o e.d) (rw own at well))
  did_held u (store k a b c d reach) =
      let o = root_at t.heap e.a e.b in
      let own = eqb-true (owner o) e.a reach.own in
      count_held _ (field_held held o e.c (root_at t.heap e.a e.d) (rw own (held.roots e.a e.d a d)))
  did_held u (send k free) =
      let live = root_live held shape e.a e.b free.node free.root free.named in
      count_held _ (send_held held e.a e.c (root_at t.heap e.a e.b) live)
  did_held u (receive {from} {to} {o} k free) =
      let way = reference_way t shape e.a free.place free.there in
      let live = reference_live held e.a free.place free.there in
      let there = entry_there t to o (received from to o (entry_at t to o)).entry formed way.object way.receiver in
      count_held _ (receive_held held e.a e.b from to o live (no_directory shape to o way.receiver way.object) free.takes there)
  did_held u (settle {from} {to} {o} {m} {n} k free) = count_held _ (settle_held held e.a to o m n)
  did_held u (collect k free) = count_held _ (collect_held held bridge formed e.a free.node (directory_at_owner shape))
  did_held u (drop_directory {d} k free) = count_held _ (clear_held held e.a e.b (rw free.there free.idle))
  did_held u (drop_remote {x} k free room) = count_held _ (drop_held held e.a e.b (rw free.there free.idle) _ x)

-- after an accepted event all is held well, as it was before
pub held_after : {t : Table} → Formed t → WellHeld t → Bridge t → (e : Event) → (step t e).answer ≡ ACCEPTED → WellHeld (step t e).table
held_after {t} formed held bridge e accepted =
    did_held formed (shaped t (met t e accepted).shape) held bridge e (step t e).table (did t e accepted)
