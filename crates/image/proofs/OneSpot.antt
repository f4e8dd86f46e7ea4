-- A table with one thing changed (document 01, "The field table"): at the one spot where that thing stands it has the new record, and the
-- old ones at all others. Assumes nothing.
use Rattle.std.specs.Prelude.{◌≡◌, refl, false, [], ℕ, ◌<◌, length, set}
use Rattle.std.proofs.Common.{sym, ap, ◌∙◌, ⊎_elim, arith, get_or-set_same, get_or-set_other}
use Rattle.terms.specs.Limits.{NODES, OBJECTS, PLACES, owner}
use Rattle.entry.specs.declared.Entry.{Entry}
use Rattle.heap.specs.declared.Object.{Object}
use Rattle.heap.specs.declared.Roots.{Roots}
use Rattle.heap.specs.Heap.{with_object}
use Rattle.table.specs.declared.Message.{Message}
use Rattle.table.specs.declared.Table.{Table}
use Rattle.table.specs.NewOrSame.{entry_either}
use Rattle.table.specs.Table.{entry_at, with_count, with_entry, with_heap, with_message}
use Rattle.table.specs.TableLaws.{entry_other, message_elsewhere, message_there}
use Rattle.image.specs.Spots.{Spot, count, object, roots, directory, remote, message, spot_position, record_at}
use Rattle.image.specs.Stored.{live_record, node_record}
use Rattle.image.specs.Writer.{directory_record, remote_record, message_record}

-- the tables agree at all other positions than that of the spot
abbrev pub OnlyAt : Spot → Table → Table → Type 0
OnlyAt s t u = (x : Spot) → (spot_position x ≡ spot_position s → ⊥) → record_at u x ≡ record_at t x

-- ---- the event count

pub count_only : (t : Table) (n : ℕ) → OnlyAt count t (with_count t n)
count_only t n count ne = absurd (ne refl)
count_only t n (object o) ne = refl
count_only t n (roots p) ne = refl
count_only t n (directory o) ne = refl
count_only t n (remote p o) ne = refl
count_only t n (message s) ne = refl

-- ---- an object

module _ (t : Table) (o : ℕ) (x : Object) where
  pub object_only : OnlyAt (object o) t (with_heap t (with_object t.heap o x))
  object_only count ne = refl
  object_only (object a) ne =
      ap (live_record a) (get_or-set_other t.heap.objects o a x (record { live = false; fields = [] }) (λ q. ne (omega arith)))
  object_only (roots p) ne = refl
  object_only (directory a) ne = refl
  object_only (remote p a) ne = refl
  object_only (message s) ne = refl

  pub object_here : length t.heap.objects ≡ OBJECTS → o < OBJECTS
      → record_at (with_heap t (with_object t.heap o x)) (object o) ≡ live_record o x
  object_here len lt = ap (live_record o) (get_or-set_same t.heap.objects o x (record { live = false; fields = [] }) (omega arith))

-- ---- the roots of a node

module _ (t : Table) (p : ℕ) (x : Roots) where
  -- the table with them
  abbrev pub with_roots : Table
  with_roots = with_heap t (record { objects = t.heap.objects; roots = set t.heap.roots p x })

  pub roots_only : OnlyAt (roots p) t with_roots
  roots_only count ne = refl
  roots_only (object a) ne = refl
  roots_only (roots q) ne = ap (node_record q) (get_or-set_other t.heap.roots p q x (record { at = [] }) (λ e. ne (omega arith)))
  roots_only (directory a) ne = refl
  roots_only (remote q a) ne = refl
  roots_only (message s) ne = refl

  pub roots_here : length t.heap.roots ≡ NODES → p < NODES → record_at with_roots (roots p) ≡ node_record p x
  roots_here len lt = ap (node_record p) (get_or-set_same t.heap.roots p x (record { at = [] }) (omega arith))

-- ---- an entry

module _ (t : Table) (p o : ℕ) (e : Entry) where
  -- at the owner, where neither the old nor the new one is remote
  pub directory_only : p ≡ owner o → remote_record p o (entry_at t p o) ≡ [] → remote_record p o e ≡ [] → OnlyAt (directory o) t (with_entry t p o e)
  directory_only at was is count ne = refl
  directory_only at was is (object a) ne = refl
  directory_only at was is (roots q) ne = refl
  directory_only at was is (directory a) ne = ap (directory_record a) (entry_other t p o e (owner a) a (λ ea ep. ne (omega arith)))
  directory_only at was is (remote q a) ne =
      ⊎_elim (λ new. ap (remote_record q a) new.2 ∙ rw (new.0, new.1) (is ∙ sym was)) (λ same. ap (remote_record q a) same)
      (entry_either t p o e q a)
  directory_only at was is (message s) ne = refl

  -- at another node
  pub remote_only : (p ≡ owner o → ⊥) → OnlyAt (remote p o) t (with_entry t p o e)
  remote_only away count ne = refl
  remote_only away (object a) ne = refl
  remote_only away (roots q) ne = refl
  remote_only away (directory a) ne = ap (directory_record a) (entry_other t p o e (owner a) a (λ ea ep. away (sym ep ∙ ap owner ea)))
  remote_only away (remote q a) ne = ap (remote_record q a) (entry_other t p o e q a (λ ea eq. ne (omega arith)))
  remote_only away (message s) ne = refl

-- ---- a message

module _ (t : Table) (s : ℕ) (x : Message) where
  pub message_only : OnlyAt (message s) t (with_message t s x)
  message_only count ne = refl
  message_only (object a) ne = refl
  message_only (roots q) ne = refl
  message_only (directory a) ne = refl
  message_only (remote q a) ne = refl
  message_only (message i) ne = ap (message_record i) (message_elsewhere t s x i (λ e. ne (omega arith)))

  pub message_here : length t.air ≡ PLACES → s < PLACES → record_at (with_message t s x) (message s) ≡ message_record s x
  message_here len lt = ap (message_record s) (message_there t s x len lt)
