-- The events that change an entry and a message keep what is held well so: SEND, RECEIVE, SETTLE and DROP (PROOF-PLAN, "The field"). Of the
-- counting they need nothing; of the shape, that a directory stands at the owner only. Assumes nothing.
use Rattle.std.specs.Prelude.{◌≡◌, refl, true, false, ◌≢◌, ◌⊎◌, ℕ}
use Rattle.std.proofs.Common.{sym, inl, inr, ⊎_elim, eqb-true}
use Rattle.std.proofs.lemmas.Bool.{false≢true}
use Rattle.std.proofs.Math.Decide.{ℕ_discrete}
use Rattle.terms.specs.Limits.{owner}
use Rattle.entry.specs.declared.Entry.{Entry}
use Rattle.entry.specs.declared.Entry.TheVariants.{Absent}
use Rattle.entry.specs.declared.Remote.{Remote}
use Rattle.entry.specs.declared.ReturnCount.{ReturnCount}
use Rattle.entry.specs.declared.Weight.{Weight}
use Rattle.entry.specs.AtNode.{may_go, received, refuses, sent, settled}
use Rattle.entry.specs.Entry.{is_directory, is_present}
use Rattle.heap.specs.Heap.{is_live}
use Rattle.table.specs.declared.Message.{Message}
use Rattle.table.specs.declared.Message.TheVariants.{Empty, Reference}
use Rattle.table.specs.declared.Table.{Table}
use Rattle.table.specs.NewOrSame.{entry_either, message_either, root_either}
use Rattle.table.specs.Table.{empty_place, entry_at, is_reference_of, message_at, with_entry, with_message}
use Rattle.step.specs.Drop.{last_words}
use Rattle.step.specs.Receive.{reply, with_received}
use Rattle.step.specs.Send.{with_sent}
use Rattle.step.specs.Settle.{with_settled}
use Rattle.laws.proofs.Events.Presence.{may_go_idle, received_keeps, received_present, sent_present, settled_directory, settled_present}
use Rattle.laws.proofs.Events.Writes.{reply_either}
use Rattle.laws.proofs.Heap.Growing.{grows_held}
use Rattle.laws.proofs.Heap.Holding.{WellHeld, well_is}
use Rattle.laws.specs.Sound.{holds_well}

-- ---- what one entry and one message more have to meet

-- where the entry e is written for object o at node p
module _ (t : Table) (p o : ℕ) (e : Entry) where
  -- no entry stops being present if this one does not
  present_by : (is_present (entry_at t p o) ≡ true → is_present e ≡ true)
      → (q a : ℕ) → is_present (entry_at t q a) ≡ true → is_present (entry_at (with_entry t p o e) q a) ≡ true
  present_by stays q a h = ⊎_elim (λ new. rw new.2 (stays (rw (new.0, new.1) at h))) (λ same. rw same h) (entry_either t p o e q a)

  -- directories are as before or of live objects if this one is
  directories_by : (is_directory e ≡ true → (is_directory (entry_at t p o) ≡ true) ⊎ (is_live t.heap o ≡ true))
      → (q a : ℕ) → is_directory (entry_at (with_entry t p o e) q a) ≡ true → (is_directory (entry_at t q a) ≡ true) ⊎ (is_live t.heap a ≡ true)
  directories_by stays q a d =
      ⊎_elim (λ new. rw (new.0, new.1) (stays (rw new.2 at d))) (λ same. inl (rw same at d)) (entry_either t p o e q a)

-- where the message m is written in place s, references are as before or of live objects if this one is
references_by : (t : Table) (s : ℕ) (m : Message) → ((x : ℕ) → is_reference_of x m ≡ true → is_live t.heap x ≡ true)
    → (a x : ℕ) → is_reference_of x (message_at (with_message t s m) a) ≡ true → (is_reference_of x (message_at t a) ≡ true) ⊎ (is_live t.heap x ≡ true)
references_by t s m good a x h = ⊎_elim (λ new. inr (good x (rw new.1 at h))) (λ same. inl (rw same at h)) (message_either t s m a)

-- what RECEIVE leaves in the place is no reference
no_reference : (q p o : ℕ) (e : Entry) (x : ℕ) → is_reference_of x (reply q p o e) ≡ true → ⊥
no_reference q p o e x = reply_either (λ m. is_reference_of x m ≡ true → ⊥) q p o e false≢true false≢true

-- ---- the events

module _ {t : Table} (held : WellHeld t) where
  -- one entry and one message are written, the heap is as it was
  written_held : (p o : ℕ) (e : Entry) (s : ℕ) (m : Message)
      → (is_present (entry_at t p o) ≡ true → is_present e ≡ true)
      → (is_directory e ≡ true → (is_directory (entry_at t p o) ≡ true) ⊎ (is_live t.heap o ≡ true))
      → ((x : ℕ) → is_reference_of x m ≡ true → is_live t.heap x ≡ true)
      → WellHeld (with_entry (with_message t s m) p o e)
  written_held p o e s m present directory reference = grows_held held (record {
    keeps = record { live = λ x l. l; present = present_by t p o e present };
    roots = λ a r. inl refl;
    fields = λ a f lt l. inl (l, refl);
    directories = directories_by t p o e directory;
    references = references_by t s m reference;
  })

  -- SEND of a live object
  pub send_held : (p q o : ℕ) → is_live t.heap o ≡ true → WellHeld (with_sent t p q o)
  send_held p q o live =
      written_held p o (sent p q o (entry_at t p o)).entry (empty_place t) (Reference p q o) (sent_present p q o (entry_at t p o)) (λ d. inr live)
      (λ x h. rw (eqb-true o x h) at live)

  -- SETTLE
  pub settle_held : (s to o : ℕ) (m : ReturnCount) (n : Weight) → WellHeld (with_settled t s to o m n)
  settle_held s to o m n =
      let e = entry_at t to o in
      written_held to o (settled m n e).entry s Empty (settled_present m n e) (λ d. inl (settled_directory m n e d)) (λ x h. absurd (false≢true h))

  -- DROP of an entry that may go: of a remote one, and of a directory
  module _ (p o : ℕ) (goes : may_go (entry_at t p o) ≡ true) where
    -- a remote one: its last words go into the air
    pub drop_held : (s : ℕ) (e : Remote) → WellHeld (with_entry (with_message t s (last_words p o e)) p o Absent)
    drop_held s e =
        written_held p o Absent s (last_words p o e)
        (λ h. absurd (may_go_idle (entry_at t p o) goes h)) (λ d. absurd (false≢true d)) (λ x h. absurd (false≢true h))

    -- a directory
    pub clear_held : WellHeld (with_entry t p o Absent)
    clear_held = grows_held held (record {
      keeps = record { live = λ x l. l; present = present_by t p o Absent (λ h. absurd (may_go_idle (entry_at t p o) goes h)) };
      roots = λ a r. inl refl;
      fields = λ a f lt l. inl (l, refl);
      directories = directories_by t p o Absent (λ d. absurd (false≢true d));
      references = λ a x h. inl h;
    })

  -- RECEIVE of a live object, at a node that is its owner or has no directory of it
  module _ (s r from to o : ℕ) (live : is_live t.heap o ≡ true) (away : to ≢ owner o → is_directory (entry_at t to o) ≡ false) where
    -- what stands there before
    abbrev found : Entry
    found = entry_at t to o

    -- and after
    abbrev after : Entry
    after = (received from to o found).entry

    -- the receiver holds it well
    pub receive_held : refuses (received from to o found) ≡ false → entry_at (with_entry t to o after) to o ≡ after
        → WellHeld (with_received t s r from to o)
    receive_held takes there = grows_held held (record {
      keeps = record { live = λ x l. l; present = present_by t to o after (received_keeps from to o found) };
      roots = λ a k. ⊎_elim (λ new. inr (rw (new.1, new.0) named)) inl (root_either t.heap to r o a k);
      fields = λ a f lt l. inl (l, refl);
      directories = directories_by t to o after (λ d. inr live);
      references = references_by t s (reply from to o found) (λ x h. absurd (no_reference from to o found x h));
    })
      where
        present : to ≢ owner o → is_present (entry_at (with_received t s r from to o) to o) ≡ true
        present other = rw there (received_present from to o found other (away other) takes)

        named : holds_well (with_received t s r from to o) to o ≡ true
        named = (well_is (with_received t s r from to o) to o).1 (inr (record {
          live = live;
          way = elim (ℕ_discrete to (owner o)) [ yes own ↦ inl (sym own) | no other ↦ inr (present other) ];
        }))
