-- One line of a scenario, as a person writes it: nothing, a comment, or an event as five decimal numbers, kind a b c d. Leading zeros are
-- allowed, signs are not. Definitions only; assumes nothing.
use Rattle.std.specs.Prelude.{Bool, true, false, List, [], ◌∷◌, ℕ, ◌+◌, ◌-◌, ◌*◌, eqb, leb, length, get_or, take, if◌then◌else◌, Option, Some, None, Result, Ok, Err}
use Rattle.terms.specs.Choose.{◌and◌, ◌or◌}
use Rattle.step.specs.declared.Event.{Event}
use Rattle.step.specs.Event.{event}

-- what a line means
pub data Line : Type 0 where
  Nothing : Line
  One : Event → Line
  Bad : Line

-- ---- bytes

abbrev pub TAB : ℕ
TAB = 9

abbrev pub line_feed : ℕ
line_feed = 10

abbrev pub RETURN : ℕ
RETURN = 13

abbrev pub SPACE : ℕ
SPACE = 32

abbrev pub HASH : ℕ
HASH = 35

-- the digits 0 to 9
abbrev pub ZERO : ℕ
ZERO = 48

abbrev pub NINE : ℕ
NINE = 57

-- a space or a tab
abbrev pub is_blank : ℕ → Bool
is_blank b = eqb b SPACE or eqb b TAB

abbrev pub is_digit : ℕ → Bool
is_digit b = leb ZERO b and leb b NINE

-- ---- numbers

-- the most that a kind and an operand may be
abbrev pub kind_most : ℕ
kind_most = 65535

abbrev pub operand_most : ℕ
operand_most = 255

-- the bytes behind the blanks
unfoldable pub skipped : List ℕ → List ℕ
skipped [] = []
skipped (b ∷ l) = if is_blank b then skipped l else b ∷ l

-- no number, or its value and the bytes behind it
pub data Number : Type 0 where
  none : Number
  found : ℕ → List ℕ → Number

-- a number of which n is read already: each digit more makes it ten times as much and the digit; above the limit it is none
unfoldable pub digits : ℕ → ℕ → List ℕ → Number
digits limit n [] = found n []
digits limit n (b ∷ l) =
    let more = 10 * n + (b - ZERO) in
    if is_digit b then (if leb more limit then digits limit more l else none)
    else found n (b ∷ l)

-- the first byte is a digit
abbrev pub starts_number : List ℕ → Bool
starts_number [] = false
starts_number (b ∷ l) = is_digit b

-- the number behind the blanks
unfoldable pub number_in : ℕ → List ℕ → Number
number_in limit l = if starts_number (skipped l) then digits limit 0 (skipped l) else none

-- ---- lines

-- the end, or a comment
abbrev pub is_end : List ℕ → Bool
is_end [] = true
is_end (b ∷ l) = eqb b HASH

-- nothing but blanks, and perhaps a comment
unfoldable pub ends : List ℕ → Bool
ends l = is_end (skipped l)

-- a number, and what it and the bytes behind it make of the line
abbrev pub after : Number → (ℕ → List ℕ → Line) → Line
after none go = Bad
after (found n l) go = go n l

-- five numbers and nothing behind them
unfoldable pub event_in : List ℕ → Line
event_in l =
    after (number_in kind_most l) (λ kind l₁.
    after (number_in operand_most l₁) (λ a l₂.
    after (number_in operand_most l₂) (λ b l₃.
    after (number_in operand_most l₃) (λ c l₄.
    after (number_in operand_most l₄) (λ d l₅.
    if ends l₅ then One (event kind a b c d) else Bad)))))

-- where the line ends with a carriage return, the bytes before it
unfoldable pub without_return : List ℕ → List ℕ
without_return l = if eqb (get_or l (length l - 1) 0) RETURN then take (length l - 1) l else l

-- what a line means that has no carriage return at its end
unfoldable pub bare_line : List ℕ → Line
bare_line l = if ends l then Nothing else event_in l

-- what a line means
unfoldable pub line_of : List ℕ → Line
line_of l = bare_line (without_return l)

-- ---- what the code hands back, as a line's meaning

abbrev pub event_told : Option Event → Line
event_told None = Bad
event_told (Some e) = One e

abbrev pub line_told : {E : Type 0} → Result (Option Event) E → Line
line_told (Ok None) = Nothing
line_told (Ok (Some e)) = One e
line_told (Err _) = Bad
