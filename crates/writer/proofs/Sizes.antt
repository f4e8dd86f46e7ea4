-- How many bytes a record of each sort has at most, whatever stands in it. Assumes nothing.
use Rattle.std.specs.Prelude.{Bool, true, false, List, [], ◌∷◌, ℕ, ◌≤◌, length, get_or, if◌then◌else◌}
use Rattle.std.proofs.Common.{arith}
use Rattle.terms.specs.Limits.{owner}
use Rattle.entry.specs.declared.Entry.{Entry}
use Rattle.entry.specs.declared.Entry.TheVariants.{Absent, AtOwner, Elsewhere}
use Rattle.heap.specs.declared.Object.{Object}
use Rattle.heap.specs.declared.Roots.{Roots}
use Rattle.table.specs.declared.Cell.{Cell}
use Rattle.table.specs.declared.Message.{Message}
use Rattle.table.specs.declared.Message.TheVariants as m
use Rattle.table.specs.declared.Place.{Place}
use Rattle.image.specs.declared.RecordKind.TheVariants.{Live}
use Rattle.image.specs.Records.{row}
use Rattle.image.specs.Stored.{OBJECT_BYTES, ROOTS_BYTES, DIRECTORY_BYTES, REMOTE_BYTES, MESSAGE_BYTES, live_record, node_record, entry_of, directory_of, remote_of, message_of}
use Rattle.image.specs.Writer.{directory_record, remote_record, message_record, bytes_of_all}

pub object_size : (o : ℕ) (x : Object) → length (bytes_of_all (live_record o x)) ≤ OBJECT_BYTES
unfolding bytes_of_all
object_size o x = go x.live
  where
    f : ℕ → ℕ
    f k = get_or x.fields k 0

    go : (b : Bool) → length (bytes_of_all (if b then row Live (o ∷ f 0 ∷ f 1 ∷ f 2 ∷ f 3 ∷ []) ∷ [] else [])) ≤ OBJECT_BYTES
    go true = omega arith
    go false = omega arith

pub message_size : (s : ℕ) (air : List Place) → length (bytes_of_all (message_of air s)) ≤ MESSAGE_BYTES
unfolding bytes_of_all
message_size s air = go (get_or air s (record { held = m.Empty })).held
  where
    go : (x : Message) → length (bytes_of_all (message_record s x)) ≤ MESSAGE_BYTES
    go m.Empty = omega arith
    go (m.Reference from to o) = omega arith
    go (m.Decrement from to o k n) = omega arith

pub roots_size : (p : ℕ) (x : Roots) → length (bytes_of_all (node_record p x)) ≤ ROOTS_BYTES
unfolding bytes_of_all
roots_size p x = omega arith

pub directory_size : (cells : List Cell) (o : ℕ) → length (bytes_of_all (directory_of cells o)) ≤ DIRECTORY_BYTES
unfolding bytes_of_all
directory_size cells o = go (entry_of cells (owner o) o)
  where
    go : (e : Entry) → length (bytes_of_all (directory_record o e)) ≤ DIRECTORY_BYTES
    go Absent = omega arith
    go (AtOwner d) = omega arith
    go (Elsewhere r) = omega arith

pub remote_size : (cells : List Cell) (p o : ℕ) → length (bytes_of_all (remote_of cells p o)) ≤ REMOTE_BYTES
unfolding bytes_of_all
remote_size cells p o = go (entry_of cells p o)
  where
    go : (e : Entry) → length (bytes_of_all (remote_record p o e)) ≤ REMOTE_BYTES
    go Absent = omega arith
    go (AtOwner d) = omega arith
    go (Elsewhere r) = omega arith
