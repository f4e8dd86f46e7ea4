-- A scenario: lines between line feeds, numbered from 1. Its meaning is a list of events, or the number of its first bad line.
-- Definitions only; assumes nothing.
use Rattle.std.specs.Prelude.{◌≡◌, Bool, true, false, List, [], ◌∷◌, ◌++◌, ℕ, suc, ◌+◌, ◌-◌, ◌≤◌, eqb, length, take, drop, if◌then◌else◌, Result, Ok, Err}
use Rattle.step.specs.declared.Event.{Event}
use Rattle.scenario.specs.declared.Unwritten.{Unwritten}
use Rattle.scenario.specs.declared.Unwritten.TheVariants.{BadLine}
use Rattle.scenario.specs.Line.{Line, Nothing, One, Bad, line_feed, line_of}

-- one byte more at the front of the first line
abbrev pub longer : ℕ → List (List ℕ) → List (List ℕ)
longer b [] = (b ∷ []) ∷ []
longer b (l ∷ ls) = (b ∷ l) ∷ ls

-- the lines of a text; the last one needs no line feed
unfoldable pub lines_of : List ℕ → List (List ℕ)
lines_of [] = []
lines_of (b ∷ text) = if eqb b line_feed then [] ∷ lines_of text else longer b (lines_of text)

abbrev pub is_bad : Line → Bool
is_bad Nothing = false
is_bad (One e) = false
is_bad Bad = true

-- the number of the first bad line, where the first line has number n; 0 where none is bad
unfoldable pub first_bad : ℕ → List (List ℕ) → ℕ
first_bad n [] = 0
first_bad n (l ∷ ls) = if is_bad (line_of l) then n else first_bad (suc n) ls

-- the event of a line, if it has one
abbrev pub events_in : Line → List Event
events_in Nothing = []
events_in (One e) = e ∷ []
events_in Bad = []

-- the events of the lines, in their order
unfoldable pub events_of : List (List ℕ) → List Event
events_of [] = []
events_of (l ∷ ls) = events_in (line_of l) ++ events_of ls

-- a text tells events, or it is bad at a line
pub data Meaning : Type 0 where
  tells : List Event → Meaning
  bad_at : ℕ → Meaning

unfoldable pub meaning_of : List ℕ → Meaning
meaning_of text =
    let lines = lines_of text in
    let bad = first_bad 1 lines in
    if eqb bad 0 then tells (events_of lines) else bad_at bad

-- ---- what the two passes over a text find

-- how many events it tells, or its bad line
abbrev pub checked : Meaning → Result ℕ Unwritten
checked (tells es) = Ok (length es)
checked (bad_at line) = Err (BadLine line)

-- the line that starts at `at` ends at `end`: before its line feed, or with the text
pub record LineEnds (text : List ℕ) (at end : ℕ) : Type 0 where
  pub low : at ≤ end
  pub high : end ≤ length text
  pub lines : lines_of (drop at text) ≡ take (end - at) (drop at text) ∷ lines_of (drop (end + 1) text)

-- the number of the first bad line, and without one how many events there are
pub record Checks (text : List ℕ) (bad events : ℕ) : Type 0 where
  pub line : bad ≡ first_bad 1 (lines_of text)
  pub count : bad ≡ 0 → events ≡ length (events_of (lines_of text))
