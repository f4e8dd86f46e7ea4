-- The kinds of record, with the number of each and the widths of what it holds (document 01, "Saved image", the table). A record is a
-- payload length, a kind and the payload. Definitions only; assumes nothing.
use Rattle.std.specs.Prelude.{Bool, true, false, List, [], ◌∷◌, ◌++◌, ℕ, ◌+◌, eqb, replicate, if◌then◌else◌}
use Rattle.terms.specs.Limits.{FIELDS, ROOTS}
use Rattle.image.specs.declared.RecordKind.{RecordKind}
use Rattle.image.specs.declared.RecordKind.TheVariants.{Count, Live, NodeRoots, Directory, Remote, Reference, Decrement, End, Unknown}
use Rattle.terms.specs.Bytes.{packed}

-- a record: its kind and the numbers of its payload
pub record Record : Type 0 where
  pub kind : RecordKind
  pub numbers : List ℕ

abbrev pub row : RecordKind → List ℕ → Record
row k ns = record { kind = k; numbers = ns }

-- the number that stands in the record for its kind
abbrev pub code_of : RecordKind → ℕ
code_of Count = 0x0100
code_of Live = 0x0101
code_of NodeRoots = 0x0102
code_of Directory = 0x0103
code_of Remote = 0x0104
code_of Reference = 0x0105
code_of Decrement = 0x0106
code_of End = 0x01FF
code_of Unknown = 0

unfoldable pub kind_of_code : ℕ → RecordKind
kind_of_code n =
    if eqb n 0x0100 then Count
    else if eqb n 0x0101 then Live
    else if eqb n 0x0102 then NodeRoots
    else if eqb n 0x0103 then Directory
    else if eqb n 0x0104 then Remote
    else if eqb n 0x0105 then Reference
    else if eqb n 0x0106 then Decrement
    else if eqb n 0x01FF then End
    else Unknown

abbrev pub is_unknown : RecordKind → Bool
is_unknown Count = false
is_unknown Live = false
is_unknown NodeRoots = false
is_unknown Directory = false
is_unknown Remote = false
is_unknown Reference = false
is_unknown Decrement = false
is_unknown End = false
is_unknown Unknown = true

abbrev pub is_end : RecordKind → Bool
is_end Count = false
is_end Live = false
is_end NodeRoots = false
is_end Directory = false
is_end Remote = false
is_end Reference = false
is_end Decrement = false
is_end End = true
is_end Unknown = false

-- the widths in bytes of a payload's numbers, in order
abbrev pub widths_of : RecordKind → List ℕ
widths_of Count = 4 ∷ []
widths_of Live = 1 ∷ replicate FIELDS 1
widths_of NodeRoots = 1 ∷ replicate ROOTS 1
widths_of Directory = 1 ∷ 4 ∷ 4 ∷ []
widths_of Remote = 1 ∷ 1 ∷ 4 ∷ 1 ∷ 1 ∷ 4 ∷ 4 ∷ []
widths_of Reference = 1 ∷ 1 ∷ 1 ∷ 1 ∷ []
widths_of Decrement = 1 ∷ 1 ∷ 1 ∷ 1 ∷ 4 ∷ 4 ∷ []
widths_of End = []
widths_of Unknown = []

abbrev pub total : List ℕ → ℕ
total [] = 0
total (w ∷ ws) = w + total ws

-- the length of the payload
abbrev pub length_of : RecordKind → ℕ
length_of k = total (widths_of k)

-- the head of a record: payload length and kind, two bytes each
abbrev pub head_widths : List ℕ
head_widths = 2 ∷ 2 ∷ []

-- the bytes of that head
abbrev pub HEAD : ℕ
HEAD = 4

-- the bytes of a record
abbrev pub record_bytes : Record → List ℕ
record_bytes r = packed head_widths (length_of r.kind ∷ code_of r.kind ∷ []) ++ packed (widths_of r.kind) r.numbers
