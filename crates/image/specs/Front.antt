-- The reader's work on the record at the front of the bytes, in three layers (document 01, "Reader"): its frame, its turn, its numbers.
-- None of them looks at the table. The proofs have that together they are what Reader.antt says. Definitions only; assumes nothing.
use Rattle.std.specs.Prelude.{Bool, List, ℕ, ◌+◌, ltb, length, Result, Ok, Err}
use Rattle.terms.specs.Choose.{◌and◌, answered}
use Rattle.terms.specs.Limits.{owner}
use Rattle.terms.specs.Numbers.{ACCEPTED}
use Rattle.terms.specs.Refusals.{number_of}
use Rattle.terms.specs.declared.Refusal.{Refusal}
use Rattle.table.specs.declared.Cell.{Cell}
use Rattle.table.specs.Table.{cell_with}
use Rattle.image.specs.declared.Front as taken
use Rattle.image.specs.declared.RecordKind.{RecordKind}
use Rattle.image.specs.declared.RecordKind.TheVariants.{Count, Live, NodeRoots, Directory, Remote, Reference, Decrement, End, Unknown}
use Rattle.image.specs.declared.Spot.{Spot}
use Rattle.image.specs.declared.Turn.{Turn}
use Rattle.image.specs.Content.{number, directory_entry, remote_entry}
use Rattle.image.specs.Order.{position_of, first_turn, turn, turn_after}
use Rattle.image.specs.Reader.{stated_kind, payload, rest_after, frame_refusals, content_refusals}
use Rattle.image.specs.Records.{HEAD, is_end, length_of}

-- ---- the frame

-- what is known of a record by its frame: a refusal's number, or its kind
pub data Frame : Type 0 where
  Refused : ℕ → Frame
  Whole : RecordKind → Frame

-- as the code hands it back
abbrev pub frame_of_result : Result RecordKind Refusal → Frame
frame_of_result (Ok k) = Whole k
frame_of_result (Err r) = Refused (number_of r)

-- refused, or whole and of this kind
unfoldable pub frame_of : List ℕ → Frame
frame_of l = answered Refused (frame_refusals (stated_kind l) l) (Whole (stated_kind l))

-- ---- the turn

-- the number of the object, node or place that the record is about
abbrev pub key_of : RecordKind → List ℕ → ℕ
key_of Count ns = 0
key_of Live ns = number ns 0
key_of NodeRoots ns = number ns 0
key_of Directory ns = number ns 0
key_of Remote ns = number ns 1
key_of Reference ns = number ns 0
key_of Decrement ns = number ns 0
key_of End ns = 0
key_of Unknown ns = 0

abbrev pub spot : ℕ → ℕ → ℕ → ℕ → Spot
spot at key first last = record { at = at; key = key; next = turn first last }

-- the thing of this number in a section, before whatever rises from it up to the last
abbrev pub up_to : ℕ → ℕ → ℕ → Spot
up_to section key last = spot (section + key) key (section + key + 1) last

-- where the record stands, what it is about, and what may come after it
abbrev pub spot_of : RecordKind → List ℕ → Spot
spot_of k ns = record { at = position_of k ns; key = key_of k ns; next = turn_after k ns }

-- ---- its numbers, and the bytes after it

-- bytes stand behind the end
abbrev pub trails : RecordKind → List ℕ → Bool
trails k l = is_end k and ltb 0 (length (rest_after k l))

-- ---- all three

-- the record at the front of the bytes: 0 and its kind, or the refusal's number and no kind; the number of the thing that it is about, what may
-- come after it, and how many bytes it has
pub record Front : Type 0 where
  pub answer : ℕ
  pub kind : RecordKind
  pub key : ℕ
  pub next : Turn
  pub length : ℕ

-- refused: nothing is passed over
abbrev pub no_front : ℕ → Front
no_front number = record { answer = number; kind = Unknown; key = 0; next = first_turn; length = 0 }

-- a record that may be taken
abbrev pub good_front : RecordKind → List ℕ → Front
good_front k ns = record { answer = ACCEPTED; kind = k; key = key_of k ns; next = turn_after k ns; length = HEAD + length_of k }

-- a record whose frame is in order
unfoldable pub whole_of : Turn → RecordKind → List ℕ → Front
whole_of now k l = answered no_front (content_refusals now k (payload k l) (rest_after k l)) (good_front k (payload k l))

-- as the code hands it back
abbrev pub front_of_result : Result taken.Front Refusal → Front
front_of_result (Ok f) = record { answer = ACCEPTED; kind = f.kind; key = f.key; next = f.next; length = f.length }
front_of_result (Err r) = no_front (number_of r)

abbrev pub after_frame : Turn → List ℕ → Frame → Front
after_frame now l (Refused number) = no_front number
after_frame now l (Whole k) = whole_of now k l

-- the record at the front of the bytes
abbrev pub front_of : Turn → List ℕ → Front
front_of now l = after_frame now l (frame_of l)

-- ---- an object's cell with the entry of a record

abbrev pub cell_with_directory : Cell → List ℕ → Cell
cell_with_directory cell ns = cell_with cell (owner (number ns 0)) (directory_entry ns)

abbrev pub cell_with_remote : Cell → List ℕ → Cell
cell_with_remote cell ns = cell_with cell (number ns 0) (remote_entry ns)
