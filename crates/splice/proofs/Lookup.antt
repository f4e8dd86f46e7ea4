-- What the records of a table tell, each asked at one position: the count, an object, the roots of a node, an entry, a message
-- (document 01, "Saved image", the payloads), and in how many bytes. Assumes nothing.
use Rattle.std.specs.Prelude.{◌≡◌, refl, Bool, true, false, [], ◌∷◌, ℕ, ◌<◌, eqb, length, if◌then◌else◌}
use Rattle.std.proofs.Common.{◌∙◌, eq-eqb, ne_eqb}
use Rattle.terms.specs.Limits.{NODES, OBJECTS, PLACES, owner}
use Rattle.entry.specs.declared.Entry.{Entry}
use Rattle.entry.specs.declared.Entry.TheVariants.{Absent, AtOwner, Elsewhere}
use Rattle.entry.specs.Fits.{fits_entry}
use Rattle.entry.specs.FitsLaws.{away, home}
use Rattle.heap.specs.declared.Object.{Object}
use Rattle.heap.specs.Heap.{is_live, object_at, roots_at, fields_of}
use Rattle.table.specs.declared.Message.{Message}
use Rattle.table.specs.declared.Message.TheVariants as m
use Rattle.table.specs.declared.Table.{Table}
use Rattle.table.specs.Formed.{Formed}
use Rattle.table.specs.Shape.{fits_message}
use Rattle.table.specs.ShapeLaws.{Shaped}
use Rattle.table.specs.Table.{entry_at, message_at}
use Rattle.image.specs.declared.Held.{Held}
use Rattle.image.specs.declared.RecordKind.TheVariants.{Live}
use Rattle.image.proofs.ContentLaws.{idle_is, live_is, roots_is, directory_is, remote_is, decrement_is}
use Rattle.image.specs.Find.{held_of, size_of, count_in, object_in, roots_in, entry_in, message_in}
use Rattle.image.specs.Records.{row}
use Rattle.image.specs.Spots.{Spot, count, object, roots, directory, remote, message, spot_position, record_at}
use Rattle.image.specs.Writer.{directory_record, remote_record, message_record, records_of, bytes_of_all}
use Rattle.splice.specs.Parts.{found}
use Rattle.splice.specs.Changed.{entry_spot, entry_record}
use Rattle.splice.proofs.Changed.{entry_within, entry_record_lem}
use Rattle.splice.specs.Spread.{Within}
use Rattle.splice.proofs.Spread.{found_at}

-- what a table tells at a position
abbrev pub told : ℕ → Table → Held
told n t = held_of (found n (records_of t))

-- ---- that is what the table holds

pub count_found : (t : Table) → count_in (told (spot_position count) t) ≡ t.count
count_found t = rw (found_at t count tt)

module _ (t : Table) (formed : Formed t) (shape : Shaped t) where
  pub object_found : (o : ℕ) → o < OBJECTS → object_in (told (spot_position (object o)) t) ≡ object_at t.heap o
  object_found o lt = rw (found_at t (object o) lt) (go (is_live t.heap o) refl)
    where
      thing : Object
      thing = object_at t.heap o

      go : (b : Bool) → is_live t.heap o ≡ b → object_in (held_of (if b then row Live (o ∷ fields_of t.heap o) ∷ [] else [])) ≡ thing
      go true e = live_is thing (shape.objects o lt) (formed.fields o lt) e o
      go false e = idle_is thing (shape.objects o lt) (formed.fields o lt) e

  pub roots_found : (p : ℕ) → p < NODES → roots_in (told (spot_position (roots p)) t) ≡ roots_at t.heap p
  roots_found p lt = rw (found_at t (roots p) lt) (roots_is (roots_at t.heap p) p (formed.roots p lt))

  pub message_found : (s : ℕ) → s < PLACES → message_in (told (spot_position (message s)) t) ≡ message_at t s
  message_found s lt = rw (found_at t (message s) lt) (go (message_at t s) (shape.messages s lt))
    where
      go : (x : Message) → fits_message x ≡ true → message_in (held_of (message_record s x)) ≡ x
      go m.Empty fits = refl
      go (m.Reference from to o) fits = refl
      go (m.Decrement from to o k n) fits = decrement_is from to o k n fits s

-- ---- entries

-- an entry comes back from its record
entry_back : (p o : ℕ) (e : Entry) → fits_entry p o e ≡ true → entry_in (held_of (entry_record p o e)) ≡ e
entry_back p o Absent fits = go (eqb p (owner o))
  where
    go : (b : Bool) → entry_in (held_of (if b then [] else [])) ≡ Absent
    go true = refl
    go false = refl
entry_back p o (AtOwner d) fits = rw (eq-eqb p (owner o) (home p o d fits).own) (directory_is d o p fits)
entry_back p o (Elsewhere r) fits = rw (ne_eqb p (owner o) (away p o r fits).elsewhere) (remote_is r p o fits)

pub entry_found : (t : Table) → Shaped t → (p o : ℕ) → p < NODES → o < OBJECTS → entry_in (told (spot_position (entry_spot p o)) t) ≡ entry_at t p o
entry_found t shape p o lp lo =
    rw (found_at t (entry_spot p o) (entry_within p o lp lo) ∙ entry_record_lem t p o) (entry_back p o (entry_at t p o) (shape.entries p o lp lo))

-- ---- in how many bytes

-- what is told at a spot says how many bytes its record has
size_at : (t : Table) (s : Spot) → size_of (held_of (record_at t s)) ≡ length (bytes_of_all (record_at t s))
unfolding size_of bytes_of_all
size_at t count = refl
size_at t (object o) = go (is_live t.heap o)
  where
    go : (b : Bool) → size_of (held_of (if b then row Live (o ∷ fields_of t.heap o) ∷ [] else []))
        ≡ length (bytes_of_all (if b then row Live (o ∷ fields_of t.heap o) ∷ [] else []))
    go true = refl
    go false = refl
size_at t (roots p) = refl
size_at t (directory o) = go (entry_at t (owner o) o)
  where
    go : (e : Entry) → size_of (held_of (directory_record o e)) ≡ length (bytes_of_all (directory_record o e))
    go Absent = refl
    go (AtOwner d) = refl
    go (Elsewhere r) = refl
size_at t (remote p o) = go (entry_at t p o)
  where
    go : (e : Entry) → size_of (held_of (remote_record p o e)) ≡ length (bytes_of_all (remote_record p o e))
    go Absent = refl
    go (AtOwner d) = refl
    go (Elsewhere r) = refl
size_at t (message s) = go (message_at t s)
  where
    go : (x : Message) → size_of (held_of (message_record s x)) ≡ length (bytes_of_all (message_record s x))
    go m.Empty = refl
    go (m.Reference from to o) = refl
    go (m.Decrement from to o k n) = refl

pub size_found : (t : Table) (s : Spot) → Within s → size_of (told (spot_position s) t) ≡ length (bytes_of_all (found (spot_position s) (records_of t)))
size_found t s in' = rw (found_at t s in') (size_at t s)
