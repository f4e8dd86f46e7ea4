-- The writer (document 01, "Saved image" and "Writer"): the records of a table in their order, and what becomes of a lent buffer.
-- Definitions only; assumes nothing.
use Rattle.std.specs.Prelude.{not, List, [], ◌∷◌, ◌++◌, ℕ, ltb, length, Result, Ok, Err, if◌then◌else◌}
use Rattle.terms.specs.Choose.{Refusal, ◌when◌, answered}
use Rattle.terms.specs.Counted.{gather, one}
use Rattle.terms.specs.Limits.{NODES, OBJECTS, PLACES, owner}
use Rattle.terms.specs.Numbers.{ACCEPTED, SHAPE, ROOM}
use Rattle.terms.specs.Refusals.{number_of}
use Rattle.terms.specs.declared.Refusal as why
use Rattle.entry.specs.declared.Entry.{Entry}
use Rattle.entry.specs.declared.Entry.TheVariants.{Absent, AtOwner, Elsewhere}
use Rattle.heap.specs.Heap.{fields_of, is_live, roots_of}
use Rattle.table.specs.declared.Message as message
use Rattle.table.specs.declared.Message.TheVariants as m
use Rattle.table.specs.declared.Table.{Table}
use Rattle.table.specs.Shape.{fits_table}
use Rattle.table.specs.Table.{entry_at, message_at}
use Rattle.image.specs.declared.RecordKind.TheVariants.{Count, Live, NodeRoots, Directory, Remote, Reference, Decrement, End}
use Rattle.terms.specs.Bytes.{over, twos_complement}
use Rattle.image.specs.Records.{Record, row, record_bytes}

-- ---- the record of each thing, or none

abbrev pub object_record : Table → ℕ → List Record
object_record t o = if is_live t.heap o then row Live (o ∷ fields_of t.heap o) ∷ [] else []

abbrev pub roots_record : Table → ℕ → List Record
roots_record t p = row NodeRoots (p ∷ roots_of t.heap p) ∷ []

abbrev pub directory_record : ℕ → Entry → List Record
directory_record o Absent = []
directory_record o (AtOwner d) = row Directory (o ∷ d.rc ∷ twos_complement d.msg_ctr.0 ∷ []) ∷ []
directory_record o (Elsewhere e) = []

abbrev pub remote_record : ℕ → ℕ → Entry → List Record
remote_record p o Absent = []
remote_record p o (AtOwner d) = []
remote_record p o (Elsewhere e) =
    row Remote (p ∷ o ∷ e.rc ∷ e.parent ∷ one e.presence ∷ twos_complement e.msg_ctr.0 ∷ e.ref_weight.0 ∷ []) ∷ []

abbrev pub message_record : ℕ → message.Message → List Record
message_record s m.Empty = []
message_record s (m.Reference from to o) = row Reference (s ∷ from ∷ to ∷ o ∷ []) ∷ []
message_record s (m.Decrement from to o k n) = row Decrement (s ∷ from ∷ to ∷ o ∷ twos_complement k.0 ∷ n.0 ∷ []) ∷ []

-- ---- all of them, in order

unfoldable pub records_of : Table → List Record
records_of t =
    (row Count (t.count ∷ []) ∷ [])
    ++ gather OBJECTS (object_record t)
    ++ gather NODES (roots_record t)
    ++ gather OBJECTS (λ o. directory_record o (entry_at t (owner o) o))
    ++ gather NODES (λ p. gather OBJECTS (λ o. remote_record p o (entry_at t p o)))
    ++ gather PLACES (λ s. message_record s (message_at t s))
    ++ (row End [] ∷ [])

-- the bytes of records, one behind the other
unfoldable pub bytes_of_all : List Record → List ℕ
bytes_of_all [] = []
bytes_of_all (r ∷ rs) = record_bytes r ++ bytes_of_all rs

-- the image of a table
unfoldable pub image : Table → List ℕ
image t = bytes_of_all (records_of t)

-- ---- a lent buffer

-- what a write gives: 0 or the refusal's number, and the length; refused, the length is 0
pub record Written : Type 0 where
  pub answer : ℕ
  pub length : ℕ

-- as the code hands it back
abbrev pub written_of : Result ℕ why.Refusal → Written
written_of (Ok n) = record { answer = ACCEPTED; length = n }
written_of (Err r) = record { answer = number_of r; length = 0 }

-- why the bytes of a table are not put: the shape isn't asked
abbrev pub put_refusals : Table → List ℕ → List Refusal
put_refusals t out = (ROOM when ltb (length out) (length (image t))) ∷ []

-- why nothing is written
abbrev pub write_refusals : Table → List ℕ → List Refusal
write_refusals t out = (SHAPE when not (fits_table t)) ∷ (ROOM when ltb (length out) (length (image t))) ∷ []

unfoldable pub put_answer : Table → List ℕ → ℕ
put_answer t out = answered (λ number. number) (put_refusals t out) ACCEPTED

unfoldable pub write_answer : Table → List ℕ → ℕ
write_answer t out = answered (λ number. number) (write_refusals t out) ACCEPTED

-- the length of what was written; refused, nothing was
unfoldable pub put_length : Table → List ℕ → ℕ
put_length t out = answered (λ number. 0) (put_refusals t out) (length (image t))

unfoldable pub write_length : Table → List ℕ → ℕ
write_length t out = answered (λ number. 0) (write_refusals t out) (length (image t))

-- the buffer afterwards
unfoldable pub put_bytes : Table → List ℕ → List ℕ
put_bytes t out = answered (λ number. out) (put_refusals t out) (over (image t) out)

unfoldable pub write_bytes : Table → List ℕ → List ℕ
write_bytes t out = answered (λ number. out) (write_refusals t out) (over (image t) out)
