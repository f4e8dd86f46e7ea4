-- The host call (document 01, "Saved image", last paragraph): image in, one event record, buffer for the new image; one number comes back.
-- Definitions only; assumes nothing.
use Rattle.std.specs.Prelude.{not, List, [], ◌∷◌, ℕ, ◌+◌, ◌*◌, eqb, ltb, length, if◌then◌else◌}
use Rattle.terms.specs.Bytes.{over}
use Rattle.terms.specs.Choose.{Refusal, ◌when◌, answered}
use Rattle.terms.specs.Numbers.{ACCEPTED, EVENT, ROOM}
use Rattle.step.specs.Outcome.{Outcome, value_of}
use Rattle.step.specs.Step.{step}
use Rattle.table.specs.Depth.{depth_report}
use Rattle.table.specs.Table.{fresh_table}
use Rattle.image.specs.Reader.{Loaded, read}
use Rattle.image.specs.Writer.{image}
use Rattle.step.specs.EventRecord.{event_in, is_record}

-- one number: answer + 256 times value + 16,777,216 times the new image's length
abbrev pub number_of_call : ℕ → ℕ → ℕ → ℕ
number_of_call answer value size = answer + 256 * value + 16777216 * size

-- what the call comes to: a refusal, or a value and the new image
pub data Called : Type 0 where
  refused_call : ℕ → Called
  done : ℕ → List ℕ → Called

-- reader's refusal, 2 if the event record isn't one, event refusals, 26
abbrev pub call_refusals : Loaded → List ℕ → Outcome → List ℕ → List ℕ → List Refusal
call_refusals loaded event o new out =
    (loaded.answer when not (eqb loaded.answer ACCEPTED))
    ∷ (EVENT when not (is_record event))
    ∷ (o.answer when not (eqb o.answer ACCEPTED))
    ∷ (ROOM when ltb (length out) (length new))
    ∷ []

-- given what was read, what the event came to, and the new image
unfoldable pub call_with : Loaded → List ℕ → Outcome → List ℕ → List ℕ → Called
call_with loaded event o new out = answered refused_call (call_refusals loaded event o new out) (done (value_of o.deed) new)

-- given what was read and what the event came to
unfoldable pub call_on : Loaded → List ℕ → Outcome → List ℕ → Called
call_on loaded event o out = call_with loaded event o (image o.table) out

-- given what was read
unfoldable pub call_after : Loaded → List ℕ → List ℕ → Called
call_after loaded event out = call_on loaded event (step loaded.table (event_in event)) out

unfoldable pub called : List ℕ → List ℕ → List ℕ → Called
called old event out = call_after (read old) event out

-- the number that comes back
abbrev pub number_in : Called → ℕ
number_in (refused_call number) = number_of_call number 0 0
number_in (done value new) = number_of_call ACCEPTED value (length new)

-- the buffer afterwards
abbrev pub buffer_in : Called → List ℕ → List ℕ
buffer_in (refused_call number) out = out
buffer_in (done value new) out = over new out

unfoldable pub host_number : List ℕ → List ℕ → List ℕ → ℕ
host_number old event out = number_in (called old event out)

unfoldable pub host_bytes : List ℕ → List ℕ → List ℕ → List ℕ
host_bytes old event out = buffer_in (called old event out) out

-- ---- the other calls of a host

-- a refusal or nothing, with a value
abbrev pub valued : ℕ → ℕ → ℕ
valued answer value = number_of_call answer (if eqb answer ACCEPTED then value else 0) 0

-- where a host starts: the image of the fresh table, unless the buffer is too short
unfoldable pub start_call : List ℕ → Called
start_call out = answered refused_call ((ROOM when ltb (length out) (length (image fresh_table))) ∷ []) (done 0 (image fresh_table))

unfoldable pub start_number : List ℕ → ℕ
start_number out = number_in (start_call out)

unfoldable pub start_bytes : List ℕ → List ℕ
start_bytes out = buffer_in (start_call out) out

-- whether the image is accepted: the reader's answer alone
unfoldable pub check_number : List ℕ → ℕ
check_number old = (read old).answer

-- how far the owner of an object is from a node; a refused image has no depth
unfoldable pub depth_call : List ℕ → ℕ → ℕ → ℕ
depth_call old node object = valued (read old).answer (depth_report (read old).table node object)
