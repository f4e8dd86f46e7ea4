-- An event as a record of bytes (document 01, "Saved image": payload length, kind, payload): length 4, kind, a b c d.
-- Definitions only; assumes nothing.
use Rattle.std.specs.Prelude.{Bool, List, [], ◌∷◌, ℕ, eqb, length, get_or}
use Rattle.terms.specs.Choose.{◌and◌}
use Rattle.terms.specs.Bytes.{unpacked}
use Rattle.step.specs.declared.Event.{Event}
use Rattle.step.specs.Event.{event}

-- the bytes of an event record
abbrev pub RECORD : ℕ
RECORD = 8

-- the payload length that an event record states
abbrev pub OPERANDS : ℕ
OPERANDS = 4

-- the widths of its numbers: payload length, kind, a b c d
abbrev pub record_widths : List ℕ
record_widths = 2 ∷ 2 ∷ 1 ∷ 1 ∷ 1 ∷ 1 ∷ []

-- its numbers
abbrev pub numbers_of : List ℕ → List ℕ
numbers_of l = unpacked record_widths l

-- the stated length is that of an event
abbrev pub states_event : List ℕ → Bool
states_event l = eqb (get_or (numbers_of l) 0 0) OPERANDS

-- the event that the first eight bytes hold
abbrev pub event_in : List ℕ → Event
event_in l =
    let ns = numbers_of l in
    event (get_or ns 1 0) (get_or ns 2 0) (get_or ns 3 0) (get_or ns 4 0) (get_or ns 5 0)

-- the bytes are exactly one event record
abbrev pub is_record : List ℕ → Bool
is_record l = eqb (length l) RECORD and states_event l
