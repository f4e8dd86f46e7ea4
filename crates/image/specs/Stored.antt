-- Records in a buffer, from a place on: what the buffer is afterwards, and which place comes next. The whole image is made in a buffer with
-- room for every record that a table could have. Definitions only; assumes nothing.
use Rattle.std.specs.Prelude.{◌≡◌, List, [], ◌∷◌, ◌++◌, ℕ, ◌+◌, ◌*◌, ◌≤◌, length, take, get_or, if◌then◌else◌}
use Rattle.std.proofs.lemmas.List.Edits.{sets}
use Rattle.terms.specs.Bytes.{packed}
use Rattle.terms.specs.Counted.{gather}
use Rattle.terms.specs.Limits.{NODES, OBJECTS, PLACES, owner}
use Rattle.entry.specs.declared.Entry.{Entry}
use Rattle.heap.specs.declared.Heap.{Heap}
use Rattle.heap.specs.declared.Object.{Object}
use Rattle.heap.specs.declared.Roots.{Roots}
use Rattle.heap.specs.Heap.{object_at, roots_at}
use Rattle.table.specs.declared.Cell.{Cell}
use Rattle.table.specs.declared.Message.TheVariants.{Empty}
use Rattle.table.specs.declared.Place.{Place}
use Rattle.table.specs.declared.Table.{Table}
use Rattle.table.specs.Table.{entry_in}
use Rattle.image.specs.declared.RecordKind.TheVariants.{Live, NodeRoots}
use Rattle.image.specs.Records.{Record, row}
use Rattle.image.specs.Writer.{directory_record, remote_record, message_record, bytes_of_all, image}

-- the bytes stand in the buffer from `at` on and nothing else changed; `to` is the place after them
pub record Stored (before : List ℕ) (at : ℕ) (bytes : List ℕ) (after : List ℕ) (to : ℕ) : Type 0 where
  pub place : to ≡ at + length bytes
  pub stands : after ≡ sets before at bytes

-- four numbers of a byte each
abbrev pub four : ℕ → ℕ → ℕ → ℕ → List ℕ
four a b c d = packed (1 ∷ 1 ∷ 1 ∷ 1 ∷ []) (a ∷ b ∷ c ∷ d ∷ [])

-- the records stand there, in so many bytes at most
pub record Put (most : ℕ) (rs : List Record) (before : List ℕ) (at : ℕ) (after : List ℕ) (to : ℕ) : Type 0 where
  pub stored : Stored before at (bytes_of_all rs) after to
  pub small : to ≤ at + most

-- ---- how many bytes the records of each sort take at most, and all of them

abbrev pub COUNT_BYTES : ℕ
COUNT_BYTES = 8

abbrev pub OBJECT_BYTES : ℕ
OBJECT_BYTES = 9

abbrev pub ROOTS_BYTES : ℕ
ROOTS_BYTES = 13

abbrev pub DIRECTORY_BYTES : ℕ
DIRECTORY_BYTES = 13

abbrev pub REMOTE_BYTES : ℕ
REMOTE_BYTES = 20

abbrev pub MESSAGE_BYTES : ℕ
MESSAGE_BYTES = 16

abbrev pub END_BYTES : ℕ
END_BYTES = 4

-- objects and roots
abbrev pub HEAP_BYTES : ℕ
HEAP_BYTES = OBJECT_BYTES * OBJECTS + ROOTS_BYTES * NODES

-- directories and other entries
abbrev pub CELLS_BYTES : ℕ
CELLS_BYTES = DIRECTORY_BYTES * OBJECTS + REMOTE_BYTES * OBJECTS * NODES

-- messages
abbrev pub AIR_BYTES : ℕ
AIR_BYTES = MESSAGE_BYTES * PLACES

-- room for a record of everything that could have one
abbrev pub FULL : ℕ
FULL = COUNT_BYTES + HEAP_BYTES + CELLS_BYTES + AIR_BYTES + END_BYTES

-- the image of the table stands at the front of the buffer, in so many bytes
pub record Made (t : Table) (buffer : List ℕ) (n : ℕ) : Type 0 where
  pub whole : length buffer ≡ FULL
  pub size : n ≡ length (image t)
  pub small : n ≤ FULL
  pub front : take n buffer ≡ image t

-- ---- the records of a part of the table by itself

-- an object, if it is live
abbrev pub live_record : ℕ → Object → List Record
live_record o x =
    let f : ℕ → ℕ = λ k. get_or x.fields k 0 in
    if x.live then row Live (o ∷ f 0 ∷ f 1 ∷ f 2 ∷ f 3 ∷ []) ∷ [] else []

-- the roots of a node
abbrev pub node_record : ℕ → Roots → List Record
node_record p x =
    let r : ℕ → ℕ = λ k. get_or x.at k 0 in
    row NodeRoots (p ∷ r 0 ∷ r 1 ∷ r 2 ∷ r 3 ∷ r 4 ∷ r 5 ∷ r 6 ∷ r 7 ∷ []) ∷ []

-- the live objects, then the roots of every node
abbrev pub heap_records : Heap → List Record
heap_records h = gather OBJECTS (λ o. live_record o (object_at h o)) ++ gather NODES (λ p. node_record p (roots_at h p))

-- the entry of object o at node p, among the cells
abbrev pub entry_of : List Cell → ℕ → ℕ → Entry
entry_of cells p o = entry_in (get_or cells o (record { at = [] })) p

-- the record of an object's directory, if there is one
abbrev pub directory_of : List Cell → ℕ → List Record
directory_of cells o = directory_record o (entry_of cells (owner o) o)

-- the record of another node's entry, if there is one
abbrev pub remote_of : List Cell → ℕ → ℕ → List Record
remote_of cells p o = remote_record p o (entry_of cells p o)

-- the directories by object, then the other entries by node and object
abbrev pub cells_records : List Cell → List Record
cells_records cells = gather OBJECTS (directory_of cells) ++ gather NODES (λ p. gather OBJECTS (remote_of cells p))

-- the record of a place's message, if there is one
abbrev pub message_of : List Place → ℕ → List Record
message_of air s = message_record s (get_or air s (record { held = Empty })).held

-- the messages by place
abbrev pub air_records : List Place → List Record
air_records air = gather PLACES (message_of air)
