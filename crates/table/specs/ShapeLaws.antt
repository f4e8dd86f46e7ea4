-- The shape of a table taken apart, spot by spot, and put together again. Assumes nothing.
use Rattle.std.specs.Prelude.{◌≡◌, Bool, true, false, not, ◌≢◌, ℕ, ◌<◌, ◌≤◌, leb, ltb, eqb, get_or}
use Rattle.std.proofs.Math.Path.{sym}
use Rattle.std.proofs.Common.{ap, ◌∙◌, true≢false, ⊎_elim, arith, leb-true, ltb-true, lt-ltb, ne_eqb}
use Rattle.std.proofs.lemmas.Bool.{eqb-false, not-true}
use Rattle.terms.proofs.ChooseLaws.{and_passes, or_passes}
use Rattle.terms.specs.Counted.{every}
use Rattle.terms.proofs.CountedLaws.{every_all, every_at}
use Rattle.terms.specs.Limits.{NODES, OBJECTS, PLACES, FIELDS, ROOTS, MOST, owner}
use Rattle.entry.specs.declared.ReturnCount.{ReturnCount}
use Rattle.entry.specs.declared.Weight.{Weight}
use Rattle.entry.specs.Fits.{fits_entry, fits_returns}
use Rattle.heap.specs.Heap.{field_at, fits_field, fits_heap, fits_name, fits_object, fits_roots, is_live, is_none, object_at, root_at, roots_at}
use Rattle.table.specs.declared.Message.TheVariants.{Reference, Decrement}
use Rattle.table.specs.declared.Table.{Table}
use Rattle.table.specs.Shape.{fits_cell, fits_count, fits_message, fits_table, fits_way}
use Rattle.table.specs.Table.{cell_at, entry_at, message_at}

-- each number of the table is in its range
pub record Shaped (t : Table) : Type 0 where
  pub count : fits_count t.count ≡ true
  pub objects : (o : ℕ) → o < OBJECTS → fits_object (object_at t.heap o) ≡ true
  pub roots : (p : ℕ) → p < NODES → fits_roots (roots_at t.heap p) ≡ true
  pub entries : (p o : ℕ) → p < NODES → o < OBJECTS → fits_entry p o (entry_at t p o) ≡ true
  pub messages : (s : ℕ) → s < PLACES → fits_message (message_at t s) ≡ true

-- taken apart
pub shaped : (t : Table) → fits_table t ≡ true → Shaped t
unfolding fits_table fits_heap fits_cell
shaped t e =
    let one = (and_passes (fits_count t.count) _).0 e in
    let two = (and_passes (fits_heap t.heap) _).0 one.1 in
    let heap = (and_passes (every OBJECTS (λ o. fits_object (object_at t.heap o))) _).0 two.0 in
    let three = (and_passes (every OBJECTS (λ o. fits_cell o (cell_at t o))) _).0 two.1 in
    record {
      count = one.0;
      objects = every_at OBJECTS _ heap.0;
      roots = every_at NODES _ heap.1;
      entries = λ p o lp lo. every_at NODES _ (every_at OBJECTS _ three.0 o lo) p lp;
      messages = every_at PLACES _ three.1;
    }

-- put together
pub in_shape : (t : Table) → Shaped t → fits_table t ≡ true
unfolding fits_table fits_heap fits_cell
in_shape t shape =
    let cell : (o : ℕ) → o < OBJECTS → every NODES (λ p. fits_entry p o (entry_at t p o)) ≡ true =
    λ o object. every_all NODES (λ p. fits_entry p o (entry_at t p o)) (λ p node. shape.entries p o node object) in
    let objects = every_all OBJECTS (λ o. fits_object (object_at t.heap o)) shape.objects in
    let roots = every_all NODES (λ p. fits_roots (roots_at t.heap p)) shape.roots in
    let cells = every_all OBJECTS (λ o. every NODES (λ p. fits_entry p o (entry_at t p o))) cell in
    let messages = every_all PLACES (λ s. fits_message (message_at t s)) shape.messages in
    rw (shape.count, objects, roots, cells, messages)

-- ---- names

-- the owner of an object is a node
pub owner_number : {o : ℕ} → o < OBJECTS → owner o < NODES
owner_number lt = omega arith

-- an object's number is a name
pub object_name : (o : ℕ) → o < OBJECTS → fits_name o ≡ true
object_name o low = rw (lt-ltb o OBJECTS low)

-- a name that isn't empty is an object's number
pub named_object : (x : ℕ) → fits_name x ≡ true → is_none x ≡ false → x < OBJECTS
named_object x fits named =
    ⊎_elim (λ low. ltb-true x OBJECTS low) (λ none. absurd (true≢false (sym none ∙ named))) ((or_passes (ltb x OBJECTS) (is_none x)).0 fits)

module _ (t : Table) (shape : Shaped t) where
  -- what a root holds is a name
  pub root_name : (p r : ℕ) → p < NODES → r < ROOTS → fits_name (root_at t.heap p r) ≡ true
  unfolding fits_roots
  root_name p r node root = every_at ROOTS (λ k. fits_name (get_or (roots_at t.heap p).at k 0)) (shape.roots p node) r root

  -- so a root that isn't empty holds an object
  pub root_object : (p r : ℕ) → p < NODES → r < ROOTS → is_none (root_at t.heap p r) ≡ false → root_at t.heap p r < OBJECTS
  root_object p r node root named = named_object (root_at t.heap p r) (root_name p r node root) named

  -- what a field of a live object holds is a name
  pub field_name : (o f : ℕ) → o < OBJECTS → f < FIELDS → is_live t.heap o ≡ true → fits_name (field_at t.heap o f) ≡ true
  unfolding fits_object
  field_name o f object field live =
      sym (ap (λ (b : Bool). fits_field b (field_at t.heap o f)) live)
      ∙ every_at FIELDS (λ k. fits_field (is_live t.heap o) (field_at t.heap o k)) (shape.objects o object) f field

-- ---- ways

-- from a node to another, of an object
pub record Way (from to o : ℕ) : Type 0 where
  pub sender : from < NODES
  pub receiver : to < NODES
  pub away : from ≢ to
  pub object : o < OBJECTS

-- taken apart
pub way : (from to o : ℕ) → fits_way from to o ≡ true → Way from to o
way from to o fits =
    let one = (and_passes (ltb from NODES) _).0 fits in
    let two = (and_passes (ltb to NODES) _).0 one.1 in
    let three = (and_passes (not (eqb from to)) _).0 two.1 in
    record {
      sender = ltb-true from NODES one.0;
      receiver = ltb-true to NODES two.0;
      away = eqb-false from to (not-true (eqb from to) three.0);
      object = ltb-true o OBJECTS three.1;
    }

-- put together
pub fits_way_lem : {from to o : ℕ} → Way from to o → fits_way from to o ≡ true
fits_way_lem {from} {to} {o} w =
    rw (lt-ltb from NODES w.sender, lt-ltb to NODES w.receiver, ne_eqb from to w.away, lt-ltb o OBJECTS w.object)

-- ---- messages

-- a reference has a way
pub reference_fits : (from to o : ℕ) → fits_message (Reference from to o) ≡ true → Way from to o
unfolding fits_message
reference_fits from to o fits = way from to o fits

-- so has a decrement, which carries a return count and a weight
pub record DecrementFits (from to o : ℕ) (m : ReturnCount) (n : Weight) : Type 0 where
  pub path : Way from to o
  pub returns : fits_returns m ≡ true
  pub positive : 0 < n.0
  pub weight : n.0 ≤ MOST

-- taken from the shape
pub decrement_fits : (from to o : ℕ) (m : ReturnCount) (n : Weight) → fits_message (Decrement from to o m n) ≡ true → DecrementFits from to o m n
unfolding fits_message
decrement_fits from to o m n fits =
    let a = (and_passes (fits_way from to o) _).0 fits in
    let b = (and_passes (fits_returns m) _).0 a.1 in
    let c = (and_passes (ltb 0 n.0) (leb n.0 MOST)).0 b.1 in
    record {
      path = way from to o a.0;
      returns = b.0;
      positive = ltb-true 0 n.0 c.0;
      weight = leb-true n.0 MOST c.1;
    }

module _ (t : Table) (shape : Shaped t) (s : ℕ) (place : s < PLACES) where
  -- a reference in the air has a way
  pub reference_way : {from to o : ℕ} → message_at t s ≡ Reference from to o → Way from to o
  reference_way {from} {to} {o} there = reference_fits from to o (sym (ap fits_message there) ∙ shape.messages s place)

  -- and so has a decrement
  pub decrement_way : {from to o : ℕ} {m : ReturnCount} {n : Weight} → message_at t s ≡ Decrement from to o m n → Way from to o
  decrement_way {from} {to} {o} {m} {n} there = (decrement_fits from to o m n (sym (ap fits_message there) ∙ shape.messages s place)).path
