-- Numbers as bytes, little-endian, and return counts in two's complement (document 01, "Saved image"). Definitions only; assumes nothing.
use Rattle.std.specs.Prelude.{List, [], ◌∷◌, ◌++◌, ℕ, zero, suc, ◌+◌, ◌-◌, ◌*◌, ◌/◌, ◌%◌, ltb, ℤ, pos, negsuc, length, take, drop, if◌then◌else◌}

-- a number in so many bytes
abbrev pub bytes_of : ℕ → ℕ → List ℕ
bytes_of zero n = []
bytes_of (suc width) n = n % 256 ∷ bytes_of width (n / 256)

-- the number that the bytes stand for
abbrev pub number_of : List ℕ → ℕ
number_of [] = 0
number_of (b ∷ bs) = b + 256 * number_of bs

-- numbers of these widths, one behind the other
abbrev pub packed : List ℕ → List ℕ → List ℕ
packed [] ns = []
packed (w ∷ ws) [] = []
packed (w ∷ ws) (n ∷ ns) = bytes_of w n ++ packed ws ns

-- the numbers of these widths at the front of the bytes
abbrev pub unpacked : List ℕ → List ℕ → List ℕ
unpacked [] bs = []
unpacked (w ∷ ws) bs = number_of (take w bs) ∷ unpacked ws (drop w bs)

-- a whole number in four bytes of two's complement, as the number that those bytes make
abbrev pub twos_complement : ℤ → ℕ
twos_complement (pos n) = n
twos_complement (negsuc n) = 4294967295 - n

-- and back
abbrev pub signed : ℕ → ℤ
signed n = if ltb n 2147483648 then pos n else negsuc (4294967295 - n)

-- bytes at the front of a buffer; what stood past them stays
abbrev pub over : List ℕ → List ℕ → List ℕ
over front out = front ++ drop (length front) out
