-- What an event does to one object: the entry at one node and the message in one place change together, by one of the few acts that
-- document 01 knows; all else of the object stays. Laws A, B, C and E are about one object, so this is all that they see of an event.
-- Definitions only; assumes nothing.
use Rattle.std.specs.Prelude.{◌≡◌, ◌≢◌, Bool, true, false, ℕ, ◌<◌, eqb}
use Rattle.terms.specs.Limits.{NODES, PLACES}
use Rattle.entry.specs.declared.ReturnCount.{ReturnCount}
use Rattle.entry.specs.declared.Weight.{Weight}
use Rattle.entry.specs.declared.Directory.{Directory}
use Rattle.entry.specs.declared.Remote.{Remote}
use Rattle.entry.specs.declared.Entry.{Entry}
use Rattle.entry.specs.declared.Entry.TheVariants.{Absent, AtOwner, Elsewhere}
use Rattle.entry.specs.AtNode.{sent, received, settled, set_unused, may_go, refuses}
use Rattle.table.specs.declared.Message.{Message}
use Rattle.table.specs.declared.Message.TheVariants.{Empty, Reference, Decrement}
use Rattle.table.specs.declared.Table.{Table}
use Rattle.table.specs.Table.{entry_at, message_at}
use Rattle.step.specs.Drop.{last_words}
use Rattle.step.specs.Receive.{reply}

-- the message is of object o
abbrev pub is_of : ℕ → Message → Bool
is_of o Empty = false
is_of o (Reference from to x) = eqb x o
is_of o (Decrement from to x m n) = eqb x o

-- the acts on object o at node p: the entry there and one message, before and after
pub data Act (o p : ℕ) : Entry → Message → Entry → Message → Type 0 where
  -- nothing of this object
  other : {e : Entry} {x y : Message} → is_of o x ≡ false → is_of o y ≡ false → Act o p e x e y
  same : {e : Entry} {x : Message} → Act o p e x e x
  -- SEND: a reference goes into an empty place
  sends : {e : Entry} {q : ℕ} → p ≢ q → q < NODES → refuses (sent p q o e) ≡ false → Act o p e Empty (sent p q o e).entry (Reference p q o)
  -- RECEIVE: a reference arrives, and perhaps a decrement goes back
  receives : {e : Entry} {q : ℕ} → refuses (received q p o e) ≡ false → Act o p e (Reference q p o) (received q p o e).entry (reply q p o e)
  -- SETTLE: a decrement arrives
  settles : {e : Entry} {q : ℕ} {m : ReturnCount} {n : Weight} → refuses (settled m n e) ≡ false
      → Act o p e (Decrement q p o m n) (settled m n e).entry Empty
  -- COLLECT: nothing at the node holds it any more
  unused : {e : Entry} {x : Message} → Act o p e x (set_unused e) x
  -- DROP of a remote entry
  drops : {e : Remote} → may_go (Elsewhere e) ≡ true → Act o p (Elsewhere e) Empty Absent (last_words p o e)
  -- DROP of a directory, or COLLECT of its object
  clears : {d : Directory} {x : Message} → may_go (AtOwner d) ≡ true → Act o p (AtOwner d) x Absent x

-- from one table to another, as far as object o is concerned: one act at one node with one place
pub record Change (t u : Table) (o : ℕ) : Type 0 where
  pub node : ℕ
  pub node_number : node < NODES
  pub place : ℕ
  pub place_number : place < PLACES
  pub entries : (p : ℕ) → p < NODES → p ≢ node → entry_at u p o ≡ entry_at t p o
  pub messages : (s : ℕ) → s < PLACES → s ≢ place → message_at u s ≡ message_at t s
  pub act : Act o node (entry_at t node o) (message_at t place) (entry_at u node o) (message_at u place)
