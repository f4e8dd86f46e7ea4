-- The event records of a scenario, each a payload length, a kind and the payload, and what is written of them into a lent buffer.
-- Definitions only; assumes nothing.
use Rattle.std.specs.Prelude.{List, [], ◌∷◌, ◌++◌, ℕ, ltb, length, if◌then◌else◌, Result, Ok, Err}
use Rattle.terms.specs.Bytes.{over, packed}
use Rattle.terms.specs.Numbers.{ACCEPTED, EVENT, ROOM}
use Rattle.step.specs.declared.Event.{Event}
use Rattle.step.specs.EventRecord.{OPERANDS, record_widths}
use Rattle.scenario.specs.declared.Unwritten.{Unwritten}
use Rattle.scenario.specs.declared.Unwritten.TheVariants.{BadLine, TooManyEvents}
use Rattle.scenario.specs.Written.{Written}
use Rattle.scenario.specs.Line.{Line}
use Rattle.scenario.specs.Text.{lines_of, events_in, events_of, Meaning, tells, bad_at, meaning_of}

-- the record of an event
unfoldable pub record_of : Event → List ℕ
record_of e = packed record_widths (OPERANDS ∷ e.kind ∷ e.a ∷ e.b ∷ e.c ∷ e.d ∷ [])

-- the records of events, one behind the other
unfoldable pub records_of : List Event → List ℕ
records_of [] = []
records_of (e ∷ es) = record_of e ++ records_of es

-- the records of a line: one or none
abbrev pub records_in : Line → List ℕ
records_in line = records_of (events_in line)

-- the records of a text's events
abbrev pub text_records : List ℕ → List ℕ
text_records text = records_of (events_of (lines_of text))

abbrev pub answer : ℕ → ℕ → ℕ → Written
answer number length line = record { answer = number; length = length; line = line }

-- the answer that stands for what the code hands back
abbrev pub answer_of : Result ℕ Unwritten → Written
answer_of (Ok length) = answer ACCEPTED length 0
answer_of (Err (BadLine line)) = answer EVENT 0 line
answer_of (Err TooManyEvents) = answer ROOM 0 0

-- the answer, by what the text means and how long the buffer is: EVENT with the number of the bad line, ROOM, or accepted with the records' length
abbrev pub answered : Meaning → ℕ → Written
answered (bad_at line) room = answer EVENT 0 line
answered (tells es) room =
    let size = length (records_of es) in
    if ltb room size then answer ROOM 0 0 else answer ACCEPTED size 0

-- the buffer after it: refused, it is as it was
abbrev pub filled : Meaning → List ℕ → List ℕ
filled (bad_at line) buffer = buffer
filled (tells es) buffer =
    let bytes = records_of es in
    if ltb (length buffer) (length bytes) then buffer else over bytes buffer

unfoldable pub written_of : List ℕ → ℕ → Written
written_of text room = answered (meaning_of text) room

unfoldable pub buffer_of : List ℕ → List ℕ → List ℕ
buffer_of text buffer = filled (meaning_of text) buffer
