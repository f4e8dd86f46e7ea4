-- Small scenarios and what they come to, by computation. Assumes nothing.
use Rattle.std.specs.Prelude.{◌≡◌, refl, List, [], ◌∷◌, ℕ}
use Prim.Native.Char.{code}
use Prim.Native.String as string
use Rattle.step.specs.Event.{event}
use Rattle.scenario.specs.Line.{skipped, digits, number_in, ends, event_in, without_return, bare_line, line_of}
use Rattle.scenario.specs.Text.{lines_of, first_bad, events_of, tells, bad_at, meaning_of}
use Rattle.scenario.specs.Records.{record_of, records_of, answer, written_of, buffer_of}

-- the bytes of a text that is written in ASCII
abbrev ascii : string.String → List ℕ
ascii string.[] = []
ascii (string.◌∷◌ c s) = code c ∷ ascii s

-- two events, the second line without a line feed
two_events : meaning_of (ascii "1 0 2 0 0\n10 3\t63 00  0 # DROP") ≡ tells (event 1 0 2 0 0 ∷ event 10 3 63 0 0 ∷ [])
unfolding skipped digits number_in ends event_in without_return bare_line line_of lines_of first_bad events_of meaning_of
two_events = refl

-- comments and empty lines tell nothing, and a carriage return before the line feed is skipped
nothing : meaning_of (ascii "# kind a b c d\r\n\r\n \t\n  # none\n") ≡ tells []
unfolding skipped digits number_in ends event_in without_return bare_line line_of lines_of first_bad events_of meaning_of
nothing = refl

-- an operand of 256, in line 3
too_great : meaning_of (ascii "# first\n1 0 0 0 0\n1 0 256 0 0\n1\n") ≡ bad_at 3
unfolding skipped digits number_in ends event_in without_return bare_line line_of lines_of first_bad events_of meaning_of
too_great = refl

-- four numbers, six numbers, a kind of 65,536, a sign, a letter, a carriage return in the middle
bad :
    (meaning_of (ascii "1 0 0 0") ≡ bad_at 1)
    × (meaning_of (ascii "1 0 0 0 0 0") ≡ bad_at 1)
    × (meaning_of (ascii "65536 0 0 0 0") ≡ bad_at 1)
    × (meaning_of (ascii "1 0 0 0 -1") ≡ bad_at 1)
    × (meaning_of (ascii "1 0 0 0 0x") ≡ bad_at 1)
    × (meaning_of (ascii "1 0 0\r0 0") ≡ bad_at 1)
unfolding skipped digits number_in ends event_in without_return bare_line line_of lines_of first_bad events_of meaning_of
bad = (refl, refl, refl, refl, refl, refl)

-- the bytes of a record: length 4, kind 258, a b c d; the buffer's ninth byte stays
bytes : buffer_of (ascii "258 1 2 3 255") (7 ∷ 7 ∷ 7 ∷ 7 ∷ 7 ∷ 7 ∷ 7 ∷ 7 ∷ 7 ∷ []) ≡ 4 ∷ 0 ∷ 2 ∷ 1 ∷ 1 ∷ 2 ∷ 3 ∷ 255 ∷ 7 ∷ []
unfolding skipped digits number_in ends event_in without_return bare_line line_of lines_of first_bad events_of meaning_of record_of records_of buffer_of
bytes = refl

-- eight bytes are needed
no_room : written_of (ascii "1 0 0 0 0\n") 7 ≡ answer 26 0 0
unfolding skipped digits number_in ends event_in without_return bare_line line_of lines_of first_bad events_of meaning_of record_of records_of written_of
no_room = refl
