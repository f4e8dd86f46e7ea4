-- A run into a lent buffer: what comes back, and what the buffer is afterwards. The buffer has room for the longest text that a run can
-- print, or nothing is written. Definitions only; assumes nothing.
use Rattle.std.specs.Prelude.{◌≡◌, Bool, List, ℕ, ◌+◌, ◌*◌, ltb, length, if◌then◌else◌, Result, Ok, Err}
use Rattle.terms.specs.Bytes.{over}
use Rattle.terms.specs.Numbers.{ACCEPTED, ROOM}
use Rattle.terms.specs.Refusals.{number_of}
use Rattle.terms.specs.declared.Refusal.{Refusal}
use Rattle.run.specs.declared.Next.{Next}
use Rattle.run.specs.declared.Progress.{Progress}
use Rattle.run.specs.declared.Summary.{Summary}
use Rattle.run.specs.declared.Told.{Told}
use Rattle.run.specs.Buffer.{Wrote}
use Rattle.run.specs.Run.{RECORDS, beginning, ending, run_end, run_text, summary}

-- what comes back of a run: 0 or the refusal's number, the bytes of its text, and its summary
pub record Ran : Type 0 where
  pub answer : ℕ
  pub length : ℕ
  pub summary : Summary

-- what stands for a result that the code hands back; refused, nothing was written and nothing has happened
abbrev pub ran_of : Result Told Refusal → Ran
ran_of (Ok t) = record { answer = ACCEPTED; length = t.length; summary = t.summary }
ran_of (Err r) = record { answer = number_of r; length = 0; summary = summary beginning }

-- the most bytes of an event's line
abbrev pub LINE : ℕ
LINE = 64

-- the most bytes of `stop` and the last line
abbrev pub ENDING : ℕ
ENDING = 256

-- the bytes that a buffer needs: no run prints more
abbrev pub TEXT : ℕ
TEXT = RECORDS * LINE + ENDING

-- a run that has come to p ends: what ends it is written at `at`, and its summary comes back
abbrev pub Ended : Progress → Next → List ℕ → ℕ → List ℕ → Ran → Type 0
Ended p front out at after r = (r.answer ≡ ACCEPTED) × (r.summary ≡ summary p) × Wrote out at (ending (summary p) front) after r.length

-- the buffer is too short for some run
abbrev pub is_short : List ℕ → Bool
is_short out = ltb (length out) TEXT

-- what comes back of a run: all of its text was written
abbrev pub told : List ℕ → Ran
told input = record { answer = ACCEPTED; length = length (run_text input); summary = summary (run_end input) }

-- nothing was written, and nothing has happened
abbrev pub untold : Ran
untold = record { answer = ROOM; length = 0; summary = summary beginning }

-- what comes back
unfoldable pub ran : List ℕ → List ℕ → Ran
ran input out = if is_short out then untold else told input

-- the buffer afterwards
unfoldable pub run_bytes : List ℕ → List ℕ → List ℕ
run_bytes input out = if is_short out then out else over (run_text input) out
