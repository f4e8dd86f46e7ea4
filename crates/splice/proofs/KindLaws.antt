-- The changes of each kind of event but COLLECT, as its rule makes them (document 01, "Events"). MOVE, CLEAR and LOAD are root-differs of
-- Events.antt as it stands. Assumes nothing.
use Rattle.std.specs.Prelude.{◌≡◌, Bool, ℕ, ◌<◌, eqb, if◌then◌else◌}
use Rattle.std.proofs.Math.Path.{refl}
use Rattle.std.proofs.Math.Bool.{true, false}
use mathlib.Core.List.{[], ◌∷◌}
use Rattle.std.proofs.Common.{arith, eq-eqb}
use Rattle.terms.specs.Limits.{NODES, OBJECTS, OWNED, PLACES, owner}
use Rattle.entry.specs.declared.ReturnCount.{ReturnCount}
use Rattle.entry.specs.declared.Weight.{Weight}
use Rattle.entry.specs.declared.Remote.{Remote}
use Rattle.entry.specs.declared.Entry.{Entry}
use Rattle.entry.specs.declared.Entry.TheVariants.{Absent, AtOwner, Elsewhere}
use Rattle.entry.specs.Acts.{first_sent}
use Rattle.entry.specs.AtNode.{done, torn, sent, received, settled}
use Rattle.entry.specs.Fits.{fits_entry}
use Rattle.entry.specs.FitsLaws.{away}
use Rattle.heap.specs.Heap.{born, free_own, with_field}
use Rattle.table.specs.declared.Message.TheVariants.{Empty, Reference}
use Rattle.table.specs.declared.Table.{Table}
use Rattle.table.specs.Formed.{Formed}
use Rattle.table.specs.ShapeLaws.{Shaped}
use Rattle.table.specs.Table.{empty_place, entry_at, with_count, with_entry, with_heap, with_message}
use Rattle.image.specs.Writer.{remote_record}
use Rattle.step.specs.Drop.{last_words}
use Rattle.step.specs.New.{chosen, with_new}
use Rattle.step.specs.Receive.{reply, with_received}
use Rattle.step.specs.Send.{with_sent}
use Rattle.step.specs.Settle.{with_settled}
use Rattle.splice.specs.Changed.{roots_with}
use Rattle.splice.proofs.Changed.{Proper, proper}
use Rattle.splice.specs.Events.{count_to, object_to, roots_to, entry_to, message_to}
use Rattle.splice.proofs.Events.{object_differs, both_differ, entry_differs, message_differs, receive_differs}
use Rattle.splice.specs.Patched.{Differs}
use Rattle.splice.specs.Kinds.{object_with}

-- ---- no act makes a remote entry at the owner

module _ (p o : ℕ) where
  nothing_proper : Proper p o Absent
  nothing_proper at = refl

  sent_proper : (q : ℕ) (e : Entry) → fits_entry p o e ≡ true → Proper p o (sent p q o e).entry
  unfolding sent
  sent_proper q Absent fits at = go (eqb p (owner o))
    where
      go : (b : Bool) → remote_record p o (if b then done (AtOwner first_sent) else torn Absent).entry ≡ []
      go true = refl
      go false = refl
  sent_proper q (AtOwner d) fits at = refl
  sent_proper q (Elsewhere r) fits at = absurd ((away p o r fits).elsewhere at)

  received_proper : (from : ℕ) (e : Entry) → fits_entry p o e ≡ true → Proper p o (received from p o e).entry
  unfolding received
  received_proper from Absent fits at = rw (eq-eqb p (owner o) at)
  received_proper from (AtOwner d) fits at = refl
  received_proper from (Elsewhere r) fits at = absurd ((away p o r fits).elsewhere at)

  settled_proper : (k : ReturnCount) (n : Weight) (e : Entry) → fits_entry p o e ≡ true → Proper p o (settled k n e).entry
  unfolding settled
  settled_proper k n Absent fits at = refl
  settled_proper k n (AtOwner d) fits at = refl
  settled_proper k n (Elsewhere r) fits at = absurd ((away p o r fits).elsewhere at)

module _ (t : Table) (formed : Formed t) (n : ℕ) where
  pub new_differs : (p r : ℕ) → p < NODES → free_own t.heap p < OWNED
      → Differs (count_to n ∷ object_to (chosen t p) born ∷ roots_to p (roots_with t p r (chosen t p)) ∷ []) t (with_count (with_new t p r (chosen t p)) n)
  new_differs p r lp free = both_differ t formed n p r (chosen t p) born lp (omega arith)

  pub store_differs : (o f x : ℕ) → o < OBJECTS
      → Differs (count_to n ∷ object_to o (object_with t o f x) ∷ []) t (with_count (with_heap t (with_field t.heap o f x)) n)
  store_differs o f x lo = object_differs t formed n o (object_with t o f x) lo

  module _ (shape : Shaped t) (p o : ℕ) (lp : p < NODES) (lo : o < OBJECTS) where
    fits : fits_entry p o (entry_at t p o) ≡ true
    fits = shape.entries p o lp lo

    was : Proper p o (entry_at t p o)
    was = proper p o (entry_at t p o) fits

    -- SEND of object o from node p
    pub send_differs : (q : ℕ) → empty_place t < PLACES
        → Differs (count_to n ∷ entry_to p o (sent p q o (entry_at t p o)).entry ∷ message_to (empty_place t) (Reference p q o) ∷ []) t
        (with_count (with_sent t p q o) n)
    send_differs q ls =
        message_differs t formed n p o lp lo (sent p q o (entry_at t p o)).entry was (sent_proper p o q (entry_at t p o) fits)
        (empty_place t) ls (Reference p q o)

    -- RECEIVE of object o at node p
    pub received_differs : (s r from : ℕ) → s < PLACES
        → Differs (count_to n ∷ roots_to p (roots_with t p r o) ∷ entry_to p o (received from p o (entry_at t p o)).entry
        ∷ message_to s (reply from p o (entry_at t p o)) ∷ []) t (with_count (with_received t s r from p o) n)
    received_differs s r from ls =
        receive_differs t formed n p o lp lo (received from p o (entry_at t p o)).entry was (received_proper p o from (entry_at t p o) fits)
        s ls (reply from p o (entry_at t p o)) r

    -- SETTLE of object o at node p
    pub settle_differs : (s : ℕ) (k : ReturnCount) (w : Weight) → s < PLACES
        → Differs (count_to n ∷ entry_to p o (settled k w (entry_at t p o)).entry ∷ message_to s Empty ∷ []) t (with_count (with_settled t s p o k w) n)
    settle_differs s k w ls =
        message_differs t formed n p o lp lo (settled k w (entry_at t p o)).entry was (settled_proper p o k w (entry_at t p o) fits) s ls Empty

    -- DROP of a directory
    pub cleared_differs : Differs (count_to n ∷ entry_to p o Absent ∷ []) t (with_count (with_entry t p o Absent) n)
    cleared_differs = entry_differs t formed n p o lp lo Absent was (nothing_proper p o)

    -- DROP of a remote entry
    pub dropped_differs : (x : Remote) → empty_place t < PLACES
        → Differs (count_to n ∷ entry_to p o Absent ∷ message_to (empty_place t) (last_words p o x) ∷ []) t
        (with_count (with_entry (with_message t (empty_place t) (last_words p o x)) p o Absent) n)
    dropped_differs x ls = message_differs t formed n p o lp lo Absent was (nothing_proper p o) (empty_place t) ls (last_words p o x)
