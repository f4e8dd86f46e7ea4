-- What each event writes into cells and air: one entry and one place of one object (COLLECT apart; roots and fields apart). Assumes nothing.
use Rattle.std.specs.Prelude.{◌≡◌, refl, true, ℕ, ◌<◌, eqb}
use Rattle.std.proofs.Common.{sym, true≢false, arith}
use Rattle.std.proofs.lemmas.List.{set-get_or}
use Rattle.terms.proofs.ChooseLaws.{either_way}
use Rattle.terms.proofs.CountedLaws.{lowest_passes}
use Rattle.terms.specs.Limits.{NODES, OBJECTS, PLACES}
use Rattle.entry.specs.declared.ReturnCount.{ReturnCount}
use Rattle.entry.specs.declared.Weight.{Weight}
use Rattle.entry.specs.declared.Directory.{Directory}
use Rattle.entry.specs.declared.Remote.{Remote}
use Rattle.entry.specs.declared.Entry.{Entry}
use Rattle.entry.specs.declared.Entry.TheVariants.{Absent, AtOwner, Elsewhere}
use Rattle.entry.specs.AtNode.{received, sent, settled}
use Rattle.entry.specs.Entry.{none, weight}
use Rattle.heap.specs.Heap.{root_at}
use Rattle.table.specs.declared.Message.{Message}
use Rattle.table.specs.declared.Message.TheVariants.{Empty, Reference, Decrement}
use Rattle.table.specs.declared.Table.{Table}
use Rattle.table.specs.ShapeLaws.{Shaped, decrement_way, reference_way, root_object}
use Rattle.table.specs.Table.{empty_place, entry_at, is_empty, message_at, with_entry, with_message}
use Rattle.step.specs.Drop.{last_words}
use Rattle.step.specs.Receive.{reply, with_received}
use Rattle.step.specs.Send.{with_sent}
use Rattle.step.specs.Settle.{with_settled}
use Rattle.laws.specs.Events.Answered.{counting}
use Rattle.laws.specs.Events.Did.{DropFree, ReceiveFree, SendFree, SettleFree}

-- ---- what an event writes

-- from t to u, entry f of object x at node p and message y in place s are written, and no others
pub record Writes (t u : Table) (x p s : ℕ) (f : Entry) (y : Message) : Type 0 where
  pub object : x < OBJECTS
  pub node : p < NODES
  pub place : s < PLACES
  pub cells : u.cells ≡ (with_entry t p x f).cells
  pub air : u.air ≡ (with_message t s y).air

-- the lowest empty place is empty
pub empty_there : (t : Table) → empty_place t < PLACES → message_at t (empty_place t) ≡ Empty
empty_there t room = go (message_at t (empty_place t)) (lowest_passes PLACES (λ s. is_empty (message_at t s)) room)
  where
    go : (x : Message) → is_empty x ≡ true → x ≡ Empty
    go Empty e = refl
    go (Reference from to o) e = absurd (true≢false (sym e))
    go (Decrement from to o m n) e = absurd (true≢false (sym e))

-- what a receipt leaves in the place: nothing, or a decrement of one to the sender
pub reply_either : (P : Message → Type 0) (from to o : ℕ) (e : Entry) → P Empty → P (Decrement to from o none (weight 1)) → P (reply from to o e)
reply_either P from to o Absent nothing back = nothing
reply_either P from to o (AtOwner d) nothing back = nothing
reply_either P from to o (Elsewhere e) nothing back = either_way P (eqb e.parent from) (λ _. nothing) back

-- ---- event by event

module _ {t : Table} (shape : Shaped t) where
  -- SEND: the sender's entry, and the reference in the empty place
  pub writes_send : {p r q : ℕ} → SendFree t p r q
      → let x = root_at t.heap p r in
      Writes t (counting t (with_sent t p q x)) x p (empty_place t) (sent p q x (entry_at t p x)).entry (Reference p q x)
  writes_send {p} {r} free = record {
    object = root_object t shape p r free.node free.root free.named;
    node = free.node;
    place = free.room;
    cells = refl;
    air = refl;
  }

  -- RECEIVE: the receiver's entry, and what is left in the place
  pub writes_receive : {s r from to x : ℕ} → ReceiveFree t s r from to x
      → Writes t (counting t (with_received t s r from to x)) x to s (received from to x (entry_at t to x)).entry (reply from to x (entry_at t to x))
  writes_receive {s} free =
      let way = reference_way t shape s free.place free.there in
      record { object = way.object; node = way.receiver; place = free.place; cells = refl; air = refl }

  -- SETTLE: the receiver's entry, and the place is empty
  pub writes_settle : {s from to x : ℕ} {m : ReturnCount} {n : Weight} → SettleFree t s from to x m n
      → Writes t (counting t (with_settled t s to x m n)) x to s (settled m n (entry_at t to x)).entry Empty
  writes_settle {s} free =
      let way = decrement_way t shape s free.place free.there in
      record { object = way.object; node = way.receiver; place = free.place; cells = refl; air = refl }

module _ {t : Table} {p x : ℕ} where
  -- DROP of a remote entry: no entry, and its last words in the empty place
  pub writes_drop : {r : Remote} → DropFree t p x (Elsewhere r) → empty_place t < PLACES
      → Writes t (counting t (with_entry (with_message t (empty_place t) (last_words p x r)) p x Absent)) x p (empty_place t) Absent (last_words p x r)
  writes_drop free room = record { object = free.object; node = free.node; place = room; cells = refl; air = refl }

  -- DROP of a directory: no entry, and every place as it was
  pub writes_clear : {d : Directory} → DropFree t p x (AtOwner d) → Writes t (counting t (with_entry t p x Absent)) x p 0 Absent (message_at t 0)
  writes_clear free = record {
    object = free.object;
    node = free.node;
    place = omega arith;
    cells = refl;
    air = sym (set-get_or t.air 0 (record { held = Empty }));
  }
