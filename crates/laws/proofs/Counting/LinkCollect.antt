-- COLLECT at one node is one act on each object: its directory cleared, its remote entry set unused, or nothing. With that, every accepted
-- event is linked to its act on every object: `linked`, and `change` for those who need no more. Assumes nothing.
use Rattle.std.specs.Prelude.{◌≡◌, refl, true, ◌≢◌, ℕ, ◌<◌, length}
use Rattle.std.proofs.lemmas.Bool.{false≢true}
use Rattle.std.proofs.Common.{arith}
use Rattle.terms.specs.Limits.{NODES, OBJECTS}
use Rattle.terms.specs.Numbers.{ACCEPTED}
use Rattle.entry.specs.declared.Entry.{Entry}
use Rattle.entry.specs.declared.Entry.TheVariants.{Absent, AtOwner, Elsewhere}
use Rattle.entry.specs.AtNode.{may_go, set_unused}
use Rattle.entry.specs.Entry.{is_clear}
use Rattle.table.specs.declared.Cell.{Cell}
use Rattle.table.specs.declared.Message.{Message}
use Rattle.table.specs.declared.Table.{Table}
use Rattle.table.specs.Formed.{Formed}
use Rattle.table.specs.ShapeLaws.{Shaped, shaped}
use Rattle.table.specs.Table.{cell_at, entry_at, entry_in, message_at}
use Rattle.table.specs.TableLaws.{cell_kept, cell_set}
use Rattle.step.specs.declared.Event.{Event}
use Rattle.step.specs.Event.{COLLECT}
use Rattle.step.specs.Step.{step}
use Rattle.laws.specs.Counting.Change.{Act, Change}
use Rattle.laws.proofs.Counting.Link.{Acts, Neither, acts, link_clear, link_drop, link_heap, link_receive, link_send, link_settle, neither}
use Rattle.laws.specs.Counting.Linked.{Linked}
use Rattle.laws.specs.Events.Answered.{counting}
use Rattle.laws.proofs.Events.Answered.{met}
use Rattle.laws.specs.Events.Did.{Did}
use Rattle.laws.proofs.Events.DidLaws.{did}
use Rattle.laws.proofs.Heap.Collected.{Changed, changed, collected}
use Rattle.laws.proofs.Heap.Starts.{reclaimed_clear}
use Rattle.laws.specs.LawE.{is_send_of, is_settle_of}

-- a clear directory goes by an act, and where none stands there is none to go
cleared : {o p : ℕ} {t : Table} {ev : Event} (e : Entry) (x : Message) → Neither o t ev → is_clear e ≡ true
    → Acts o p e x Absent x (is_send_of o t ev) (is_settle_of o t ev)
unfolding may_go
cleared Absent x n clear = acts n Act.same refl refl
cleared (AtOwner d) x n clear = acts n (Act.clears clear) refl refl
cleared (Elsewhere r) x n clear = absurd (false≢true clear)

module _ {t : Table} (formed : Formed t) {p : ℕ} (node : p < NODES) where
  -- the table after COLLECT
  abbrev after : Table
  after = counting t (collected t p)

  -- what happens to the entry at p, and to no other
  record Swept (o : ℕ) (ev : Event) (c : Cell) : Type 0 where
    others : (q : ℕ) → q ≢ p → entry_in c q ≡ entry_at t q o
    own : (x : Message) → Acts o p (entry_at t p o) x (entry_in c p) x (is_send_of o t ev) (is_settle_of o t ev)

  -- by what is kept and what is held
  swept : (o : ℕ) (ev : Event) → o < OBJECTS → Neither o t ev → Swept o ev (cell_at after o)
  swept o ev object n = go (cell_at after o) (changed t p o object)
    where
      size : p < length (cell_at t o).at
      size = omega (arith, formed.entries o object)

      go : (c : Cell) → Changed t p o c → Swept o ev c
      go c (Changed.kept_cell stays) = record { others = λ q ne. refl; own = λ x. acts n Act.same refl refl }
      go c (Changed.gone_cell gone) = record {
        others = λ q ne. cell_kept (cell_at t o) p q Absent ne;
        own = λ x. rw (cell_set (cell_at t o) p Absent size) (cleared (entry_at t p o) x n (reclaimed_clear t p o object gone));
      }
      go c (Changed.unused_cell stays away idle) = record {
        others = λ q ne. cell_kept (cell_at t o) p q (set_unused (entry_at t p o)) ne;
        own = λ x. rw (cell_set (cell_at t o) p (set_unused (entry_at t p o)) size) (acts n Act.unused refl refl);
      }

  -- COLLECT on one object
  pub link_collect : (e : Event) → e.kind ≡ COLLECT → (o : ℕ) → o < OBJECTS → Linked t e after o
  link_collect e kind o object =
      let sweeping = swept o e object (neither (rw kind) (rw kind)) in
      let here = sweeping.own (message_at t 0) in
      record {
        change = record {
          node = p;
          node_number = node;
          place = 0;
          place_number = omega arith;
          entries = λ q _ ne. sweeping.others q ne;
          messages = λ b _ ne. refl;
          act = here.act;
        };
        sent = here.sent;
        settled = here.settled;
      }

-- ---- every accepted event

module _ {t : Table} (formed : Formed t) (shape : Shaped t) {e : Event} where
  -- by cases of what the event did
  linked_did : {u : Table} → Did t e u → (o : ℕ) → o < OBJECTS → Linked t e u o
  linked_did (Did.new kind free) o object = link_heap (rw kind) (rw kind) o
  linked_did (Did.move kind a b c) o object = link_heap (rw kind) (rw kind) o
  linked_did (Did.clear kind a b) o object = link_heap (rw kind) (rw kind) o
  linked_did (Did.load kind a b c d reach) o object = link_heap (rw kind) (rw kind) o
  linked_did (Did.store kind a b c d reach) o object = link_heap (rw kind) (rw kind) o
  linked_did (Did.send kind free) o object = link_send formed shape kind free o object
  linked_did (Did.receive kind free) o object = link_receive formed shape kind free o object
  linked_did (Did.settle kind free) o object = link_settle formed shape kind free o object
  linked_did (Did.collect kind free) o object = link_collect formed free.node e kind o object
  linked_did (Did.drop_directory kind free) o object = link_clear formed kind free o object
  linked_did (Did.drop_remote kind free room) o object = link_drop formed kind free room o object

module _ (t : Table) (e : Event) (formed : Formed t) (accepted : (step t e).answer ≡ ACCEPTED) where
  -- an accepted event is linked to its act on every object
  pub linked : (o : ℕ) → o < OBJECTS → Linked t e (step t e).table o
  linked = linked_did formed (shaped t (met t e accepted).shape) (did t e accepted)

  -- one act on each object
  pub change : (o : ℕ) → o < OBJECTS → Change t (step t e).table o
  change o object = (linked o object).change
