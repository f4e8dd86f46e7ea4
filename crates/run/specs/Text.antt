-- Text as bytes: ASCII, and numbers in decimal (document 01, "One run in full"). Definitions only; assumes nothing.
use Rattle.std.specs.Prelude.{List, [], ◌∷◌, ◌++◌, ℕ, zero, suc, ◌+◌, ◌/◌, ◌%◌, ltb, if◌then◌else◌}
use Rattle.std.specs.Borrow.{Bor}
use Prim.Native.Char.{code}
use Prim.Native.String as string

-- the bytes of a text that is written in ASCII
abbrev pub ascii : string.String → List ℕ
ascii string.[] = []
ascii (string.◌∷◌ c s) = code c ∷ ascii s

-- a digit
abbrev pub digit : ℕ → ℕ
digit n = 48 + n

-- a number in decimal, in at most so many digits
abbrev pub decimal_in : ℕ → ℕ → List ℕ
decimal_in zero n = []
decimal_in (suc digits) n = if ltb n 10 then digit n ∷ [] else decimal_in digits (n / 10) ++ digit (n % 10) ∷ []

-- a number in decimal: twenty digits hold any number of 64 bits
unfoldable pub decimal : ℕ → List ℕ
decimal n = decimal_in 20 n

-- the end of a line
abbrev pub newline : List ℕ
newline = 10 ∷ []

-- a space
abbrev pub space : List ℕ
space = 32 ∷ []

-- texts one behind the other
abbrev pub joined : List (List ℕ) → List ℕ
joined [] = []
joined (text ∷ texts) = text ++ joined texts

-- a line of numbers, each behind its name
abbrev pub named_line : List (Bor (List ℕ) × ℕ) → List ℕ
named_line [] = newline
named_line (n ∷ ns) = n.0.now ++ (decimal n.1 ++ named_line ns)
