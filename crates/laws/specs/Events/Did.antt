-- What an accepted event did, kind by kind: its operands lie in their ranges, none of the kind's refusals applied, and the table is the one
-- that document 01's table of events names, counted. DidLaws.antt proves it of every accepted event; proofs about accepted events go by
-- these cases. Definitions only; assumes nothing.
use Rattle.std.specs.Prelude.{◌≡◌, ◌≢◌, true, false, ℕ, ◌<◌}
use Rattle.terms.specs.Limits.{NODES, OBJECTS, OWNED, FIELDS, ROOTS, PLACES, NONE}
use Rattle.entry.specs.declared.ReturnCount.{ReturnCount}
use Rattle.entry.specs.declared.Weight.{Weight}
use Rattle.entry.specs.declared.Directory.{Directory}
use Rattle.entry.specs.declared.Remote.{Remote}
use Rattle.entry.specs.declared.Entry.{Entry}
use Rattle.entry.specs.declared.Entry.TheVariants.{Absent, AtOwner, Elsewhere}
use Rattle.entry.specs.AtNode.{may_go, received, refuses, sent, settled}
use Rattle.heap.specs.Heap.{field_at, free_own, is_live, is_none, root_at, with_field, with_root}
use Rattle.heap.specs.Walk.{owned_by}
use Rattle.table.specs.declared.Message.TheVariants.{Reference, Decrement}
use Rattle.table.specs.declared.Table.{Table}
use Rattle.table.specs.Table.{empty_place, entry_at, message_at, with_entry, with_heap, with_message}
use Rattle.step.specs.declared.Event.{Event}
use Rattle.step.specs.Collect.{collect_torn, held_at, kept, with_collected}
use Rattle.step.specs.Drop.{last_words}
use Rattle.step.specs.Event.{NEW, MOVE, CLEAR, LOAD, STORE, SEND, RECEIVE, SETTLE, COLLECT, DROP}
use Rattle.step.specs.New.{chosen, with_new}
use Rattle.step.specs.Receive.{with_received}
use Rattle.step.specs.Send.{is_dead_own, with_sent}
use Rattle.step.specs.Settle.{with_settled}
use Rattle.laws.specs.Events.Answered.{counting}

-- ---- what each kind was free of

-- NEW: root r of p is empty, an object is free, and no directory stands for it
pub record NewFree (t : Table) (p r : ℕ) : Type 0 where
  pub node : p < NODES
  pub root : r < ROOTS
  pub empty : is_none (root_at t.heap p r) ≡ true
  pub room : free_own t.heap p < OWNED
  pub unlisted : entry_at t p (chosen t p) ≡ Absent

-- LOAD and STORE: the object whose fields are asked for is p's own and live
pub record InReach (t : Table) (p o : ℕ) : Type 0 where
  pub named : is_none o ≡ false
  pub own : owned_by p o ≡ true
  pub live : is_live t.heap o ≡ true

-- SEND: root r of p holds an object that p may send to another node, and there is a place for it
pub record SendFree (t : Table) (p r q : ℕ) : Type 0 where
  pub node : p < NODES
  pub root : r < ROOTS
  pub receiver : q < NODES
  pub away : p ≢ q
  pub named : is_none (root_at t.heap p r) ≡ false
  pub alive : is_dead_own t p (root_at t.heap p r) ≡ false
  pub takes : refuses (sent p q (root_at t.heap p r) (entry_at t p (root_at t.heap p r))) ≡ false
  pub room : empty_place t < PLACES

-- a reference from one node to another stands in place s
pub record ReceiveFree (t : Table) (s r from to o : ℕ) : Type 0 where
  pub place : s < PLACES
  pub root : r < ROOTS
  pub there : message_at t s ≡ Reference from to o
  pub empty : is_none (root_at t.heap to r) ≡ true
  pub alive : is_dead_own t to o ≡ false
  pub takes : refuses (received from to o (entry_at t to o)) ≡ false

-- a decrement from one node to another stands in place s
pub record SettleFree (t : Table) (s from to o : ℕ) (m : ReturnCount) (n : Weight) : Type 0 where
  pub place : s < PLACES
  pub there : message_at t s ≡ Decrement from to o m n
  pub takes : refuses (settled m n (entry_at t to o)) ≡ false

-- COLLECT: all that is kept is live, and p holds nothing that it may not
pub record CollectFree (t : Table) (p : ℕ) : Type 0 where
  pub node : p < NODES
  pub whole : collect_torn t p (kept t p) (held_at t p (kept t p)) ≡ false

-- the entry that stands for o at p may go
pub record DropFree (t : Table) (p o : ℕ) (e : Entry) : Type 0 where
  pub node : p < NODES
  pub object : o < OBJECTS
  pub there : entry_at t p o ≡ e
  pub idle : may_go e ≡ true

-- ---- what it did

-- the accepted event e made u of t
pub data Did (t : Table) (e : Event) : Table → Type 0 where
  new : e.kind ≡ NEW → NewFree t e.a e.b → Did t e (counting t (with_new t e.a e.b (chosen t e.a)))
  move : e.kind ≡ MOVE → e.a < NODES → e.b < ROOTS → e.c < ROOTS
      → Did t e (counting t (with_heap t (with_root t.heap e.a e.b (root_at t.heap e.a e.c))))
  clear : e.kind ≡ CLEAR → e.a < NODES → e.b < ROOTS → Did t e (counting t (with_heap t (with_root t.heap e.a e.b NONE)))
  load : e.kind ≡ LOAD → e.a < NODES → e.b < ROOTS → e.c < ROOTS → e.d < FIELDS
      → InReach t e.a (root_at t.heap e.a e.c)
      → Did t e (counting t (with_heap t (with_root t.heap e.a e.b (field_at t.heap (root_at t.heap e.a e.c) e.d))))
  store : e.kind ≡ STORE → e.a < NODES → e.b < ROOTS → e.c < FIELDS → e.d < ROOTS
      → InReach t e.a (root_at t.heap e.a e.b)
      → Did t e (counting t (with_heap t (with_field t.heap (root_at t.heap e.a e.b) e.c (root_at t.heap e.a e.d))))
  send : e.kind ≡ SEND → SendFree t e.a e.b e.c → Did t e (counting t (with_sent t e.a e.c (root_at t.heap e.a e.b)))
  receive : {from to o : ℕ} → e.kind ≡ RECEIVE → ReceiveFree t e.a e.b from to o
      → Did t e (counting t (with_received t e.a e.b from to o))
  settle : {from to o : ℕ} {m : ReturnCount} {n : Weight} → e.kind ≡ SETTLE → SettleFree t e.a from to o m n
      → Did t e (counting t (with_settled t e.a to o m n))
  collect : e.kind ≡ COLLECT → CollectFree t e.a → Did t e (counting t (with_collected t e.a (kept t e.a) (held_at t e.a (kept t e.a))))
  drop_directory : {d : Directory} → e.kind ≡ DROP → DropFree t e.a e.b (AtOwner d) → Did t e (counting t (with_entry t e.a e.b Absent))
  drop_remote : {x : Remote} → e.kind ≡ DROP → DropFree t e.a e.b (Elsewhere x) → empty_place t < PLACES
      → Did t e (counting t (with_entry (with_message t (empty_place t) (last_words e.a e.b x)) e.a e.b Absent))
