-- What stands at a position of an image, found by a scan over its records and with no table made (document 01, "Saved image"). The scan looks
-- at the low byte of a record's kind and at its first two keys. Definitions only; assumes nothing.
use Rattle.std.specs.Prelude.{List, [], ◌∷◌, ℕ, zero, suc, ◌+◌, ltb, eqb, length, drop, get_or, replicate, if◌then◌else◌}
use Rattle.terms.specs.Limits.{NONE, ROOTS}
use Rattle.entry.specs.declared.Entry.{Entry}
use Rattle.entry.specs.declared.Entry.TheVariants as e
use Rattle.heap.specs.declared.Object.{Object}
use Rattle.heap.specs.declared.Roots.{Roots}
use Rattle.heap.specs.Heap.{idle}
use Rattle.table.specs.declared.Message.{Message}
use Rattle.table.specs.declared.Message.TheVariants as m
use Rattle.image.specs.declared.Found.{Found}
use Rattle.image.specs.declared.Held.{Held}
use Rattle.image.specs.declared.Held.TheVariants as h
use Rattle.image.specs.declared.RecordKind.{RecordKind}
use Rattle.image.specs.declared.RecordKind.TheVariants.{Count, Live, NodeRoots, Directory, Remote, Reference, Decrement, End, Unknown}
use Rattle.image.specs.Content.{number, live_object, roots_of_node, directory_entry, remote_entry, reference_message, decrement_message}
use Rattle.image.specs.Front.{Frame, Refused, Whole, frame_of}
use Rattle.image.specs.Order.{position_of}
use Rattle.image.specs.Reader.{payload}
use Rattle.image.specs.Records.{Record, row, HEAD, length_of}
use Rattle.image.specs.Stored.{live_record, node_record}
use Rattle.image.specs.Stored as stored
use Rattle.image.specs.Writer.{directory_record, remote_record, message_record}

-- ---- the scan

-- the kind that the low byte of its number stands for; what is none of the others counts as the end
unfoldable pub kind_of_low : ℕ → RecordKind
kind_of_low n =
    if eqb n 0 then Count
    else if eqb n 1 then Live
    else if eqb n 2 then NodeRoots
    else if eqb n 3 then Directory
    else if eqb n 4 then Remote
    else if eqb n 5 then Reference
    else if eqb n 6 then Decrement
    else End

-- of the record at the front of the bytes: its kind, its position, how many bytes it has
abbrev pub front_kind : List ℕ → RecordKind
front_kind l = kind_of_low (get_or l 2 0)

abbrev pub front_place : List ℕ → ℕ
front_place l = position_of (front_kind l) (get_or l 4 0 ∷ get_or l 5 0 ∷ [])

abbrev pub front_size : List ℕ → ℕ
front_size l = HEAD + length_of (front_kind l)

-- with fewer bytes than these no record but the end can be at the front
abbrev pub KEYED : ℕ
KEYED = 6

-- the bytes of the records before position n, of which i at most are looked at
unfoldable pub passed_by : ℕ → ℕ → List ℕ → ℕ
passed_by zero n l = 0
passed_by (suc i) n l =
    if ltb (length l) KEYED then 0
    else if ltb (front_place l) n then front_size l + passed_by i n (drop (front_size l) l)
    else 0

-- where the records from position n on begin
abbrev pub offset : ℕ → List ℕ → ℕ
offset n l = passed_by (length l) n l

-- ---- the record there

-- the record at the front of the bytes, if it is whole and stands at position n
abbrev pub at_frame : ℕ → List ℕ → Frame → List Record
at_frame n l (Refused number) = []
at_frame n l (Whole k) = if eqb (position_of k (payload k l)) n then row k (payload k l) ∷ [] else []

abbrev pub front_at : ℕ → List ℕ → List Record
front_at n l = at_frame n l (frame_of l)

-- what the scan finds at position n
abbrev pub seen : ℕ → List ℕ → List Record
seen n l = front_at n (drop (offset n l) l)

-- ---- what it tells

-- an object and a node's roots as they are held
abbrev pub of_object : Object → Held
of_object x = h.Object x

abbrev pub of_roots : Roots → Held
of_roots x = h.Roots x

-- and back
abbrev pub whole_object : Object → Object
whole_object x = x

abbrev pub whole_roots : Roots → Roots
whole_roots x = x

abbrev pub held_in : RecordKind → List ℕ → Held
held_in Count ns = h.Count (number ns 0)
held_in Live ns = of_object (live_object ns)
held_in NodeRoots ns = of_roots (roots_of_node ns)
held_in Directory ns = h.Entry (directory_entry ns)
held_in Remote ns = h.Entry (remote_entry ns)
held_in Reference ns = h.Message (reference_message ns)
held_in Decrement ns = h.Message (decrement_message ns)
held_in End ns = h.Nothing
held_in Unknown ns = h.Nothing

-- of the record found, if any
abbrev pub held_of : List Record → Held
held_of [] = h.Nothing
held_of (r ∷ rs) = held_in r.kind r.numbers

-- the record that tells so much of object, node or place a, or of object b at node a; none where nothing is to be told
abbrev pub entry_records : ℕ → ℕ → Entry → List Record
entry_records p o e.Absent = []
entry_records p o (e.AtOwner d) = directory_record o (e.AtOwner d)
entry_records p o (e.Elsewhere r) = remote_record p o (e.Elsewhere r)

abbrev pub held_records : ℕ → ℕ → Held → List Record
held_records a b h.Nothing = []
held_records a b (h.Count n) = row Count (n ∷ []) ∷ []
held_records a b (h.Object x) = live_record a (whole_object x)
held_records a b (h.Roots x) = node_record a (whole_roots x)
held_records a b (h.Entry e) = entry_records a b e
held_records a b (h.Message m) = message_record a m

-- and how many bytes that record has
abbrev pub entry_size : Entry → ℕ
entry_size e.Absent = 0
entry_size (e.AtOwner d) = stored.DIRECTORY_BYTES
entry_size (e.Elsewhere r) = stored.REMOTE_BYTES

abbrev pub message_size : Message → ℕ
message_size m.Empty = 0
message_size (m.Reference from to o) = 8
message_size (m.Decrement from to o k n) = stored.MESSAGE_BYTES

unfoldable pub size_of : Held → ℕ
size_of h.Nothing = 0
size_of (h.Count n) = stored.COUNT_BYTES
size_of (h.Object x) = if x.live then stored.OBJECT_BYTES else 0
size_of (h.Roots x) = stored.ROOTS_BYTES
size_of (h.Entry e) = entry_size e
size_of (h.Message m) = message_size m

-- ---- what stands at position n, from a place in the bytes on

abbrev pub place : ℕ → Held → Found
place at held = record { at = at; after = at + size_of held; held = held }

unfoldable pub found_from : ℕ → ℕ → List ℕ → Found
found_from from n l = place (from + offset n (drop from l)) (held_of (seen n (drop from l)))

-- ---- one thing that it tells; nothing found, nothing there

abbrev pub count_in : Held → ℕ
count_in h.Nothing = 0
count_in (h.Count n) = n
count_in (h.Object x) = 0
count_in (h.Roots x) = 0
count_in (h.Entry e) = 0
count_in (h.Message m) = 0

abbrev pub object_in : Held → Object
object_in h.Nothing = idle
object_in (h.Count n) = idle
object_in (h.Object x) = whole_object x
object_in (h.Roots x) = idle
object_in (h.Entry e) = idle
object_in (h.Message m) = idle

abbrev pub no_roots : Roots
no_roots = record { at = replicate ROOTS NONE }

abbrev pub roots_in : Held → Roots
roots_in h.Nothing = no_roots
roots_in (h.Count n) = no_roots
roots_in (h.Object x) = no_roots
roots_in (h.Roots x) = whole_roots x
roots_in (h.Entry e) = no_roots
roots_in (h.Message m) = no_roots

abbrev pub entry_in : Held → Entry
entry_in h.Nothing = e.Absent
entry_in (h.Count n) = e.Absent
entry_in (h.Object x) = e.Absent
entry_in (h.Roots x) = e.Absent
entry_in (h.Entry e) = e
entry_in (h.Message m) = e.Absent

abbrev pub message_in : Held → Message
message_in h.Nothing = m.Empty
message_in (h.Count n) = m.Empty
message_in (h.Object x) = m.Empty
message_in (h.Roots x) = m.Empty
message_in (h.Entry e) = m.Empty
message_in (h.Message m) = m
