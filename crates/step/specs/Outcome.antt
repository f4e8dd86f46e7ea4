-- What comes of an event: refused with a number, or done; its value; and the form that each event's rule has.
-- Definitions only; assumes nothing.
use Rattle.std.specs.Prelude.{Bool, List, ℕ, eqb, Result, Ok, Err}
use Rattle.terms.specs.Choose.{Refusal, answered}
use Rattle.terms.specs.Numbers.{ACCEPTED}
use Rattle.terms.specs.Refusals.{number_of}
use Rattle.terms.specs.declared.Refusal as given
use Rattle.table.specs.declared.Table.{Table}
use Rattle.step.specs.declared.Deed as told
use Rattle.step.specs.Deed.{Deed, deed_of}
use Rattle.step.specs.Deed.{Refused, Arranged, Born, Sent, CameHome, Made, Merged, Answered, Settled, Collected, Dropped, Cleared}

-- the answer is 0 or the refusal's number; refused, the table is the very one that came
pub record Outcome : Type 0 where
  pub answer : ℕ
  pub deed : Deed
  pub table : Table

-- refused: the state as it was
abbrev pub refused : Table → ℕ → Outcome
refused t number = record { answer = number; deed = Refused; table = t }

-- done: the new state; Step counts the event
abbrev pub did : Deed → Table → Outcome
did deed t = record { answer = ACCEPTED; deed = deed; table = t }

-- what stands for a result that the code hands back, and the table that it leaves
abbrev pub outcome_of : Result told.Deed given.Refusal → Table → Outcome
outcome_of (Ok deed) t = did (deed_of deed) t
outcome_of (Err refusal) t = refused t (number_of refusal)

abbrev pub is_accepted : Outcome → Bool
is_accepted o = eqb o.answer ACCEPTED

-- a rule: what the event is refused for, in the order in which it is tried, and what it does otherwise
pub record Rule : Type 0 where
  pub refusals : List Refusal
  pub effect : Outcome

-- a rule applied to the table that it is about
abbrev pub by : Table → Rule → Outcome
by t rule = answered (refused t) rule.refusals rule.effect

-- what a value says where no decrement was sent
abbrev pub NODECREMENT : ℕ
NODECREMENT = 255

-- the value that document 01's table gives for each deed
abbrev pub value_of : Deed → ℕ
value_of Refused = 0
value_of Arranged = 0
value_of (Born object) = object
value_of (Sent place) = place
value_of CameHome = NODECREMENT
value_of Made = NODECREMENT
value_of Merged = NODECREMENT
value_of (Answered place) = place
value_of Settled = 0
value_of (Collected objects) = objects
value_of (Dropped place) = place
value_of Cleared = NODECREMENT

-- decrements that the deed sent
abbrev pub decrements_sent : Deed → ℕ
decrements_sent Refused = 0
decrements_sent Arranged = 0
decrements_sent (Born object) = 0
decrements_sent (Sent place) = 0
decrements_sent CameHome = 0
decrements_sent Made = 0
decrements_sent Merged = 0
decrements_sent (Answered place) = 1
decrements_sent Settled = 0
decrements_sent (Collected objects) = 0
decrements_sent (Dropped place) = 1
decrements_sent Cleared = 0

-- decrements that the deed saved: a receipt merged into RefWeight
abbrev pub decrements_saved : Deed → ℕ
decrements_saved Refused = 0
decrements_saved Arranged = 0
decrements_saved (Born object) = 0
decrements_saved (Sent place) = 0
decrements_saved CameHome = 0
decrements_saved Made = 0
decrements_saved Merged = 1
decrements_saved (Answered place) = 0
decrements_saved Settled = 0
decrements_saved (Collected objects) = 0
decrements_saved (Dropped place) = 0
decrements_saved Cleared = 0
