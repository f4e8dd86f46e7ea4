-- The reader (document 01, "Reader"): record by record, the first test that fails decides. Definitions only; assumes nothing.
use Rattle.std.specs.Prelude.{not, List, [], ◌∷◌, ◌++◌, ℕ, zero, suc, ◌+◌, ltb, eqb, length, take, drop, if◌then◌else◌}
use Rattle.terms.specs.Choose.{Refusal, ◌when◌, ◌and◌, answered}
use Rattle.terms.specs.Numbers.{ACCEPTED, SHORT, KIND, LENGTH, ORDER, VALUE, TRAIL}
use Rattle.terms.specs.Refusals.{refusal_number}
use Rattle.table.specs.declared.Table.{Table}
use Rattle.table.specs.Table.{fresh_table}
use Rattle.image.specs.declared.Loaded as kept
use Rattle.image.specs.declared.RecordKind.{RecordKind}
use Rattle.image.specs.declared.Turn.{Turn}
use Rattle.terms.specs.Bytes.{number_of, unpacked}
use Rattle.image.specs.Content.{fits_record, with_record}
use Rattle.image.specs.Order.{first_turn, turn_after, in_turn}
use Rattle.image.specs.Records.{HEAD, kind_of_code, is_unknown, is_end, length_of, widths_of}

-- what a record at the front of the bytes comes to: a refusal, the end, or the table with it and the bytes after it
pub data Taken : Type 0 where
  stop : ℕ → Taken
  finished : Table → Taken
  onward : Turn → Table → List ℕ → Taken

-- ---- the record at the front

abbrev pub stated_length : List ℕ → ℕ
stated_length l = number_of (take 2 l)

abbrev pub stated_kind : List ℕ → RecordKind
stated_kind l = kind_of_code (number_of (take 2 (drop 2 l)))

-- the numbers of its payload
abbrev pub payload : RecordKind → List ℕ → List ℕ
payload k l = unpacked (widths_of k) (drop HEAD l)

-- the bytes after it
abbrev pub rest_after : RecordKind → List ℕ → List ℕ
rest_after k l = drop (HEAD + length_of k) l

-- ---- why it is refused, in the order in which it is tried

-- its frame
abbrev pub frame_refusals : RecordKind → List ℕ → List Refusal
frame_refusals k l =
    (SHORT when ltb (length l) HEAD)
    ∷ (KIND when is_unknown k)
    ∷ (LENGTH when not (eqb (stated_length l) (length_of k)))
    ∷ (SHORT when ltb (length l) (HEAD + length_of k))
    ∷ []

-- its turn, its numbers, and bytes after the end
abbrev pub content_refusals : Turn → RecordKind → List ℕ → List ℕ → List Refusal
content_refusals now k ns rest =
    (ORDER when not (in_turn now k ns))
    ∷ (VALUE when not (fits_record k ns))
    ∷ (TRAIL when (is_end k and ltb 0 (length rest)))
    ∷ []

-- the table with the record in it, or the end
abbrev pub take_in : Table → RecordKind → List ℕ → List ℕ → Taken
take_in t k ns rest = if is_end k then finished t else onward (turn_after k ns) (with_record t k ns) rest

-- a record of kind k with the numbers ns, and the bytes after it
unfoldable pub record_of : Turn → Table → List ℕ → RecordKind → List ℕ → List ℕ → Taken
record_of now t l k ns rest = answered stop (frame_refusals k l ++ content_refusals now k ns rest) (take_in t k ns rest)

-- the record at the front of the bytes
abbrev pub take_record : Turn → Table → List ℕ → Taken
take_record now t l = record_of now t l (stated_kind l) (payload (stated_kind l) l) (rest_after (stated_kind l) l)

-- ---- all records

-- what a read gives: 0 or the refusal's number, and a table
pub record Loaded : Type 0 where
  pub answer : ℕ
  pub table : Table

-- as the code hands it back
abbrev pub loaded_of : kept.Loaded → Loaded
loaded_of l = record { answer = refusal_number l.refusal; table = l.table }

-- a refused read hands back the fresh state
abbrev pub refused_read : ℕ → Loaded
refused_read number = record { answer = number; table = fresh_table }

-- what comes of a record, with the rest read by go
abbrev pub then_read : Taken → (Turn → Table → List ℕ → Loaded) → Loaded
then_read (stop number) go = refused_read number
then_read (finished t) go = record { answer = ACCEPTED; table = t }
then_read (onward now t rest) go = go now t rest

-- at most n records more
unfoldable pub read_from : ℕ → Turn → Table → List ℕ → Loaded
read_from zero now t l = refused_read SHORT
read_from (suc n) now t l = then_read (take_record now t l) (λ now' t' rest. read_from n now' t' rest)

-- the whole image: there are no more records than bytes
unfoldable pub read : List ℕ → Loaded
read l = read_from (length l) first_turn fresh_table l
