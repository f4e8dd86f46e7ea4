-- Every accepted event but COLLECT writes at most one entry and one place, of one object, by one act; so it is linked to its act on every
-- object. LinkCollect.antt has COLLECT, and the link of every accepted event. Assumes nothing.
use Rattle.std.specs.Prelude.{◌≡◌, refl, Bool, false, ◌≢◌, ℕ, ◌<◌, eqb}
use Rattle.std.proofs.Common.{sym, ◌∙◌, arith, eq-eqb, ne_eqb}
use Rattle.std.proofs.Math.Decide.{ℕ_discrete}
use Rattle.terms.specs.Limits.{OBJECTS, PLACES}
use Rattle.entry.specs.declared.ReturnCount.{ReturnCount}
use Rattle.entry.specs.declared.Weight.{Weight}
use Rattle.entry.specs.declared.Directory.{Directory}
use Rattle.entry.specs.declared.Remote.{Remote}
use Rattle.entry.specs.declared.Entry.{Entry}
use Rattle.entry.specs.declared.Entry.TheVariants.{Absent, AtOwner, Elsewhere}
use Rattle.heap.specs.declared.Heap.{Heap}
use Rattle.heap.specs.Heap.{root_at}
use Rattle.table.specs.declared.Message.{Message}
use Rattle.table.specs.declared.Table.{Table}
use Rattle.table.specs.Formed.{Formed}
use Rattle.table.specs.ShapeLaws.{Shaped}
use Rattle.table.specs.Table.{empty_place, entry_at, is_decrement_of, message_at, with_entry, with_heap, with_message}
use Rattle.table.specs.TableLaws.{entry_other, entry_there, message_elsewhere, message_there}
use Rattle.step.specs.declared.Event.{Event}
use Rattle.step.specs.Drop.{last_words}
use Rattle.step.specs.Event.{SEND, RECEIVE, SETTLE, DROP}
use Rattle.step.specs.Receive.{reply, with_received}
use Rattle.step.specs.Send.{with_sent}
use Rattle.step.specs.Settle.{with_settled}
use Rattle.laws.specs.Counting.Change.{Act, is_of}
use Rattle.laws.specs.Counting.Linked.{Linked, is_sent, is_settled}
use Rattle.laws.specs.Events.Answered.{counting}
use Rattle.laws.specs.Events.Did.{DropFree, ReceiveFree, SendFree, SettleFree}
use Rattle.laws.proofs.Events.Writes.{Writes, empty_there, reply_either, writes_clear, writes_drop, writes_receive, writes_send, writes_settle}
use Rattle.laws.specs.LawE.{is_send_of, is_settle_of}

-- ---- an act with its two tests

-- an act on object o at node p, and whether it is a SEND or a SETTLE
pub record Acts (o p : ℕ) (e : Entry) (x : Message) (f : Entry) (y : Message) (sending settling : Bool) : Type 0 where
  pub act : Act o p e x f y
  pub sent : is_sent act ≡ sending
  pub settled : is_settled act ≡ settling

-- an event that is neither a SEND nor a SETTLE of o, whatever else it is
pub record Neither (o : ℕ) (t : Table) (e : Event) : Type 0 where
  pub unsent : is_send_of o t e ≡ false
  pub unsettled : is_settle_of o t e ≡ false

-- such are all events of other kinds
pub neither : {o : ℕ} {t : Table} {e : Event} → eqb e.kind SEND ≡ false → eqb e.kind SETTLE ≡ false → Neither o t e
neither no_send no_settle = record { unsent = rw no_send; unsettled = rw no_settle }

-- an act that is neither, of such an event
pub acts : {o p : ℕ} {t : Table} {ev : Event} {e f : Entry} {x y : Message} → Neither o t ev
    → (act : Act o p e x f y) → is_sent act ≡ false → is_settled act ≡ false → Acts o p e x f y (is_send_of o t ev) (is_settle_of o t ev)
acts n act s d = record { act = act; sent = s ∙ sym n.unsent; settled = d ∙ sym n.unsettled }

-- an act on what is found where it is found
found : {o p : ℕ} {e d f : Entry} {x w y : Message} {sending settling : Bool} → e ≡ d → x ≡ w
    → Acts o p d w f y sending settling → Acts o p e x f y sending settling
found entry message a = rw (entry, message) a

-- ---- what an event writes, as an act

module _ {t u : Table} {x p s : ℕ} {f : Entry} {y : Message} (formed : Formed t) (writes : Writes t u x p s f y) where
  -- each entry is what the cells written hold
  entry_at_lem : (q o : ℕ) → entry_at u q o ≡ entry_at (with_entry t p x f) q o
  entry_at_lem q o = rw writes.cells

  -- each message is what the air written holds
  message_at_lem : (a : ℕ) → message_at u a ≡ message_at (with_message t s y) a
  message_at_lem a = rw writes.air

  -- the act on x is given; on another object it does what the message does by itself
  pub linked_by : (e : Event)
      → Acts x p (entry_at t p x) (message_at t s) f y (is_send_of x t e) (is_settle_of x t e)
      → ((o : ℕ) → o ≢ x → Acts o p (entry_at t p o) (message_at t s) (entry_at t p o) y (is_send_of o t e) (is_settle_of o t e))
      → (o : ℕ) → o < OBJECTS → Linked t e u o
  linked_by e own others o object = elim (ℕ_discrete o x) [
    | yes q ↦ rw q (linked x writes.object (λ a ne. entry_at_lem a x ∙ entry_other t p x f a x (λ _ same. ne same))
        (rw (entry_at_lem p x ∙ entry_there t p x f formed writes.object writes.node) own))
    | no ne ↦
        let stays : (a : ℕ) → entry_at u a o ≡ entry_at t a o = λ a. entry_at_lem a o ∙ entry_other t p x f a o (λ same _. ne same) in
        linked o object (λ a _. stays a) (rw (stays p) (others o ne))
  ]
    where
      here : message_at u s ≡ y
      here = message_at_lem s ∙ message_there t s y formed.places writes.place

      linked : (a : ℕ) → a < OBJECTS → ((q : ℕ) → q ≢ p → entry_at u q a ≡ entry_at t q a)
          → Acts a p (entry_at t p a) (message_at t s) (entry_at u p a) y (is_send_of a t e) (is_settle_of a t e) → Linked t e u a
      linked a number stay did =
          let there : Acts a p (entry_at t p a) (message_at t s) (entry_at u p a) (message_at u s) (is_send_of a t e) (is_settle_of a t e) = rw here did in
          record {
            change = record {
              node = p;
              node_number = writes.node;
              place = s;
              place_number = writes.place;
              entries = λ q _ ne. stay q ne;
              messages = λ b _ ne. message_at_lem b ∙ message_elsewhere t s y b ne;
              act = there.act;
            };
            sent = there.sent;
            settled = there.settled;
          }

-- ---- messages of other objects

-- a message that isn't o's goes, another comes: nothing of o
aside : {o p : ℕ} {t : Table} {ev : Event} {e : Entry} {x y : Message} → Neither o t ev → is_of o x ≡ false → is_of o y ≡ false
    → Acts o p e x e y (is_send_of o t ev) (is_settle_of o t ev)
aside n old new = acts n (Act.other old new) refl refl

-- what a receipt leaves is empty or of the same object
reply_of : (o from to x : ℕ) (e : Entry) → o ≢ x → is_of o (reply from to x e) ≡ false
reply_of o from to x e ne = reply_either (λ m. is_of o m ≡ false) from to x e refl (ne_eqb x o (λ q. ne (sym q)))

-- ---- event by event

module _ {t : Table} (formed : Formed t) (shape : Shaped t) {e : Event} where
  -- SEND: the reference goes into the empty place
  pub link_send : e.kind ≡ SEND → SendFree t e.a e.b e.c → (o : ℕ) → o < OBJECTS
      → Linked t e (counting t (with_sent t e.a e.c (root_at t.heap e.a e.b))) o
  link_send kind free =
      let x = root_at t.heap e.a e.b in
      let room = empty_there t free.room in
      linked_by formed (writes_send shape free) e
      (found refl room (record {
        act = Act.sends free.away free.receiver free.takes;
        sent = rw (kind, eq-eqb x x refl);
        settled = rw kind;
      }))
      (λ o ne.
      let apart = ne_eqb x o (λ q. ne (sym q)) in
      found refl room (aside {t = t} {ev = e} (record { unsent = rw (kind, apart); unsettled = rw kind }) refl apart))

  -- RECEIVE: the reference leaves its place, perhaps for a decrement
  pub link_receive : {from to x : ℕ} → e.kind ≡ RECEIVE → ReceiveFree t e.a e.b from to x → (o : ℕ) → o < OBJECTS
      → Linked t e (counting t (with_received t e.a e.b from to x)) o
  link_receive {from} {to} {x} kind free =
      let none : (o : ℕ) → Neither o t e = λ o. neither (rw kind) (rw kind) in
      linked_by formed (writes_receive shape {r = e.b} free) e
      (found refl free.there (acts (none x) (Act.receives free.takes) refl refl))
      (λ o ne. found refl free.there (aside (none o) (ne_eqb x o (λ q. ne (sym q))) (reply_of o from to x (entry_at t to x) ne)))

  -- SETTLE: the decrement leaves its place
  pub link_settle : {from to x : ℕ} {m : ReturnCount} {n : Weight} → e.kind ≡ SETTLE → SettleFree t e.a from to x m n → (o : ℕ) → o < OBJECTS
      → Linked t e (counting t (with_settled t e.a to x m n)) o
  link_settle {from} {to} {x} {m} {n} kind free =
      let there : (o : ℕ) → is_decrement_of o (message_at t e.a) ≡ eqb x o = λ o. rw free.there in
      linked_by formed (writes_settle shape free) e
      (found refl free.there (record {
        act = Act.settles free.takes;
        sent = rw kind;
        settled = rw (kind, there x, eq-eqb x x refl);
      }))
      (λ o ne.
      let apart = ne_eqb x o (λ q. ne (sym q)) in
      found refl free.there (aside {t = t} {ev = e} (record { unsent = rw kind; unsettled = rw (kind, there o, apart) }) apart refl))

module _ {t : Table} (formed : Formed t) {e : Event} where
  -- DROP of a remote entry: its last words go into the empty place
  pub link_drop : {r : Remote} → e.kind ≡ DROP → DropFree t e.a e.b (Elsewhere r) → empty_place t < PLACES → (o : ℕ) → o < OBJECTS
      → Linked t e (counting t (with_entry (with_message t (empty_place t) (last_words e.a e.b r)) e.a e.b Absent)) o
  link_drop {r} kind free full =
      let none : (o : ℕ) → Neither o t e = λ o. neither (rw kind) (rw kind) in
      let room = empty_there t full in
      linked_by formed (writes_drop free full) e
      (found free.there room (acts (none e.b) (Act.drops free.idle) refl refl))
      (λ o ne. found refl room (aside (none o) refl (ne_eqb e.b o (λ q. ne (sym q)))))

  -- DROP of a directory: no place changes
  pub link_clear : {d : Directory} → e.kind ≡ DROP → DropFree t e.a e.b (AtOwner d) → (o : ℕ) → o < OBJECTS
      → Linked t e (counting t (with_entry t e.a e.b Absent)) o
  link_clear {d} kind free =
      let none : (o : ℕ) → Neither o t e = λ o. neither (rw kind) (rw kind) in
      linked_by formed (writes_clear free) e
      (found free.there refl (acts (none e.b) (Act.clears free.idle) refl refl))
      (λ o ne. acts (none o) Act.same refl refl)

-- an event that changes roots and fields only
pub link_heap : {t : Table} {h : Heap} {e : Event} → eqb e.kind SEND ≡ false → eqb e.kind SETTLE ≡ false → (o : ℕ)
    → Linked t e (counting t (with_heap t h)) o
link_heap no_send no_settle o = record {
  change = record {
    node = 0;
    node_number = omega arith;
    place = 0;
    place_number = omega arith;
    entries = λ q _ ne. refl;
    messages = λ b _ ne. refl;
    act = Act.same;
  };
  sent = rw no_send;
  settled = rw no_settle;
}
