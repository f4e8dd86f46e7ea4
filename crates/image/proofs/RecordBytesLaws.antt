-- The bytes of the records that tell one thing of the field, made by themselves (document 01, "Saved image"): what is asked of them, and how
-- many they are. Assumes nothing.
use Rattle.std.specs.Prelude.{◌≡◌, refl, Bool, true, false, [], ◌∷◌, ℕ, length, get_or, if◌then◌else◌}
use Rattle.entry.specs.declared.Entry.{Entry}
use Rattle.entry.specs.declared.Entry.TheVariants as e
use Rattle.heap.specs.declared.Object.{Object}
use Rattle.table.specs.declared.Message.{Message}
use Rattle.table.specs.declared.Message.TheVariants as m
use Rattle.image.specs.declared.Held.{Held}
use Rattle.image.specs.declared.Held.TheVariants as h
use Rattle.image.specs.declared.RecordKind.TheVariants.{Live}
use Rattle.image.specs.Find.{whole_object, held_records, entry_records, entry_size, message_size, size_of}
use Rattle.image.specs.Records.{row}
use Rattle.image.specs.Stored.{OBJECT_BYTES, live_record}
use Rattle.image.specs.Writer.{message_record, bytes_of_all}

-- ---- a record has the bytes that its sort has, whatever its numbers are

object_size : (o : ℕ) (x : Object) → (if x.live then OBJECT_BYTES else 0) ≡ length (bytes_of_all (live_record o x))
unfolding bytes_of_all
object_size o x = go x.live
  where
    f : ℕ → ℕ
    f k = get_or x.fields k 0

    go : (b : Bool) → (if b then OBJECT_BYTES else 0) ≡ length (bytes_of_all (if b then row Live (o ∷ f 0 ∷ f 1 ∷ f 2 ∷ f 3 ∷ []) ∷ [] else []))
    go true = refl
    go false = refl

entry_size_lem : (p o : ℕ) (x : Entry) → entry_size x ≡ length (bytes_of_all (entry_records p o x))
unfolding bytes_of_all
entry_size_lem p o e.Absent = refl
entry_size_lem p o (e.AtOwner d) = refl
entry_size_lem p o (e.Elsewhere r) = refl

message_size_lem : (s : ℕ) (x : Message) → message_size x ≡ length (bytes_of_all (message_record s x))
unfolding bytes_of_all
message_size_lem s m.Empty = refl
message_size_lem s (m.Reference from to o) = refl
message_size_lem s (m.Decrement from to o k n) = refl

pub size_records : (a b : ℕ) (x : Held) → size_of x ≡ length (bytes_of_all (held_records a b x))
unfolding size_of bytes_of_all
size_records a b h.Nothing = refl
size_records a b (h.Count n) = refl
size_records a b (h.Object x) = object_size a (whole_object x)
size_records a b (h.Roots x) = refl
size_records a b (h.Entry x) = entry_size_lem a b x
size_records a b (h.Message x) = message_size_lem a x
