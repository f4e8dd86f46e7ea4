-- The refusals of the code beside the numbers that the rules fix, and the number that stands for what a function hands back. Definitions only;
-- assumes nothing.
use Rattle.std.specs.Prelude.{ℕ, Option, Some, None, Result, Ok, Err}
use Rattle.terms.specs.Numbers.{ACCEPTED, SHAPE, EVENT, ENDED, NOMSG, SELF, EMPTY, AWAY, ROOT, NOROOM, NOENTRY, BUSY, TORN, FULL}
use Rattle.terms.specs.Numbers.{SHORT, KIND, LENGTH, ORDER, VALUE, TRAIL, ROOM}
use Rattle.terms.specs.declared.Refusal.{Refusal}
use Rattle.terms.specs.declared.Refusal.TheVariants as r

-- the number of a refusal
abbrev pub number_of : Refusal → ℕ
number_of r.Shape = SHAPE
number_of r.Event = EVENT
number_of r.Ended = ENDED
number_of r.NoMessage = NOMSG
number_of r.ToItself = SELF
number_of r.Empty = EMPTY
number_of r.Away = AWAY
number_of r.Root = ROOT
number_of r.NoRoom = NOROOM
number_of r.NoEntry = NOENTRY
number_of r.Busy = BUSY
number_of r.Torn = TORN
number_of r.Full = FULL
number_of r.Short = SHORT
number_of r.Kind = KIND
number_of r.Length = LENGTH
number_of r.Order = ORDER
number_of r.Value = VALUE
number_of r.Trail = TRAIL
number_of r.Room = ROOM

-- the number of what may be refused: 0 where it isn't
abbrev pub refusal_number : Option Refusal → ℕ
refusal_number None = ACCEPTED
refusal_number (Some r) = number_of r

-- the number of what is handed back or refused
abbrev pub answer_of : {A : Type 0} → Result A Refusal → ℕ
answer_of (Ok a) = ACCEPTED
answer_of (Err r) = number_of r
