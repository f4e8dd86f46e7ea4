-- What the code's numbers stand for. Definitions only; assumes nothing.
use Rattle.std.specs.Prelude.{List, ℕ, ◌-◌, length, drop, Option, Some, None}
use Rattle.std.specs.Borrow.{Bor}
use Rattle.scenario.specs.Line.{Number, none, found}

-- a number and the place past it in the line's bytes
pub data Read : Type 0 where
  Found : (value next : ℕ) → Read
  Bad : Read

-- its value and the bytes from its place on
abbrev pub meant : List ℕ → Read → Number
meant l (Found value next) = found value (drop next l)
meant l Bad = none

-- its value; 0 where there is none
abbrev pub value_of : Read → ℕ
value_of (Found value next) = value
value_of Bad = 0

-- a value and the bytes behind it, as the code hands them back
abbrev pub number_told : Option (ℕ × Bor (List ℕ)) → Number
number_told None = none
number_told (Some r) = found r.0 r.1.now

-- the same as a number and a place, in the line l
abbrev pub read_of : List ℕ → Option (ℕ × Bor (List ℕ)) → Read
read_of l None = Bad
read_of l (Some r) = Found r.0 (length l - length r.1.now)
