-- The kinds of event and the range of each operand (document 01, "Events", the table). Definitions only; assumes nothing.
use Rattle.std.specs.Prelude.{Bool, ℕ, ltb, eqb, if◌then◌else◌}
use Rattle.terms.specs.Choose.{◌and◌}
use Rattle.terms.specs.Limits.{NODES, OBJECTS, FIELDS, ROOTS, PLACES}
use Rattle.step.specs.declared.Event.{Event}
use Rattle.step.specs.declared.Kind.{Kind}
use Rattle.step.specs.declared.Kind.TheVariants.{New, Move, Clear, Load, Store, Send, Receive, Settle, Collect, Drop, Unknown}
use Rattle.step.specs.declared.Ranges.{Ranges}

abbrev pub event : ℕ → ℕ → ℕ → ℕ → ℕ → Event
event k a b c d = record { kind = k; a = a; b = b; c = c; d = d }

-- ---- kinds

abbrev pub NEW : ℕ
NEW = 1

abbrev pub MOVE : ℕ
MOVE = 2

abbrev pub CLEAR : ℕ
CLEAR = 3

abbrev pub LOAD : ℕ
LOAD = 4

abbrev pub STORE : ℕ
STORE = 5

abbrev pub SEND : ℕ
SEND = 6

abbrev pub RECEIVE : ℕ
RECEIVE = 7

abbrev pub SETTLE : ℕ
SETTLE = 8

abbrev pub COLLECT : ℕ
COLLECT = 9

abbrev pub DROP : ℕ
DROP = 10

unfoldable pub kind_of : ℕ → Kind
kind_of k =
    if eqb k NEW then New
    else if eqb k MOVE then Move
    else if eqb k CLEAR then Clear
    else if eqb k LOAD then Load
    else if eqb k STORE then Store
    else if eqb k SEND then Send
    else if eqb k RECEIVE then Receive
    else if eqb k SETTLE then Settle
    else if eqb k COLLECT then Collect
    else if eqb k DROP then Drop
    else Unknown

-- the number of each kind; 0, which is none's, of an unknown one
abbrev pub kind_number : Kind → ℕ
kind_number New = NEW
kind_number Move = MOVE
kind_number Clear = CLEAR
kind_number Load = LOAD
kind_number Store = STORE
kind_number Send = SEND
kind_number Receive = RECEIVE
kind_number Settle = SETTLE
kind_number Collect = COLLECT
kind_number Drop = DROP
kind_number Unknown = 0

-- ---- operands

-- how many values each operand may take, from 0 on
abbrev pub ranges : ℕ → ℕ → ℕ → ℕ → Ranges
ranges a b c d = record { a = a; b = b; c = c; d = d }

-- an operand that a kind doesn't list must be 0
abbrev pub UNUSED : ℕ
UNUSED = 1

-- the operands in the order in which the table lists them; of an unknown kind none will do
abbrev pub ranges_of : Kind → Ranges
ranges_of New = ranges NODES ROOTS UNUSED UNUSED
ranges_of Move = ranges NODES ROOTS ROOTS UNUSED
ranges_of Clear = ranges NODES ROOTS UNUSED UNUSED
ranges_of Load = ranges NODES ROOTS ROOTS FIELDS
ranges_of Store = ranges NODES ROOTS FIELDS ROOTS
ranges_of Send = ranges NODES ROOTS NODES UNUSED
ranges_of Receive = ranges PLACES ROOTS UNUSED UNUSED
ranges_of Settle = ranges PLACES UNUSED UNUSED UNUSED
ranges_of Collect = ranges NODES UNUSED UNUSED UNUSED
ranges_of Drop = ranges NODES OBJECTS UNUSED UNUSED
ranges_of Unknown = ranges 0 0 0 0

-- each operand lies in its range
abbrev pub fits_ranges : Ranges → Event → Bool
fits_ranges r e = ltb e.a r.a and ltb e.b r.b and ltb e.c r.c and ltb e.d r.d

unfoldable pub fits_event : Event → Bool
fits_event e = fits_ranges (ranges_of (kind_of e.kind)) e
