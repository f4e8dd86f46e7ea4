-- Numbers to bytes and back lose nothing, singly and packed one behind the other. Assumes nothing.
use Rattle.std.specs.Prelude.{◌≡◌, refl, Bool, true, false, List, [], ◌∷◌, ◌++◌, ℕ, zero, suc, ◌+◌, ◌-◌, ◌*◌, ◌/◌, ◌%◌, ◌^◌, ◌≤◌, ◌<◌, ltb, ℤ, pos, negsuc, length, take, drop, if◌then◌else◌}
use Rattle.std.proofs.Common.{sym, ap, ◌∙◌, append_assoc, arith, length-append, length-drop, take_at, drop_at, take-add, length-take-le, lt-ltb, le-ltb}
use Rattle.terms.specs.Bytes.{bytes_of, number_of, packed, unpacked, twos_complement, signed}
use Rattle.image.specs.Records.{total}
use Rattle.image.specs.BytesLaws.{AreBytes}

-- as many numbers as widths, each fitting its own
abbrev pub Fit : List ℕ → List ℕ → Type 0
Fit [] [] = Unit
Fit [] (n ∷ ns) = ⊥
Fit (w ∷ ws) [] = ⊥
Fit (w ∷ ws) (n ∷ ns) = (n < 256 ^ w) × Fit ws ns

-- ---- a number

pub length_bytes_of : (w n : ℕ) → length (bytes_of w n) ≡ w
length_bytes_of zero n = refl
length_bytes_of (suc w) n = ap suc (length_bytes_of w (n / 256))

-- a number that fits its width comes back
pub number_of_bytes_of : (w n : ℕ) → n < 256 ^ w → number_of (bytes_of w n) ≡ n
number_of_bytes_of zero n lt = omega arith
number_of_bytes_of (suc w) n lt = rw (number_of_bytes_of w (n / 256) (omega arith)) (omega arith)

-- what bytes stand for fits their width
pub number_of_fits : (bs : List ℕ) → AreBytes bs → number_of bs < 256 ^ length bs
number_of_fits [] are = omega arith
number_of_fits (b ∷ bs) are = wider (number_of bs) (length bs) (number_of_fits bs are.1)
  where
    wider : (n w : ℕ) → n < 256 ^ w → b + 256 * n < 256 ^ suc w
    wider n w lt = omega (arith, are.0)

-- bytes come back
pub bytes_of_number_of : (bs : List ℕ) → AreBytes bs → bytes_of (length bs) (number_of bs) ≡ bs
bytes_of_number_of [] are = refl
bytes_of_number_of (b ∷ bs) are =
    let low : (b + 256 * number_of bs) % 256 ≡ b = omega (arith, are.0) in
    let high : (b + 256 * number_of bs) / 256 ≡ number_of bs = omega (arith, are.0) in
    rw (low, high, bytes_of_number_of bs are.1)

-- ---- bytes of a list of bytes

pub bytes_take : (n : ℕ) (l : List ℕ) → AreBytes l → AreBytes (take n l)
bytes_take zero l are = tt
bytes_take (suc n) [] are = tt
bytes_take (suc n) (b ∷ bs) are = (are.0, bytes_take n bs are.1)

pub bytes_drop : (n : ℕ) (l : List ℕ) → AreBytes l → AreBytes (drop n l)
bytes_drop zero l are = are
bytes_drop (suc n) [] are = tt
bytes_drop (suc n) (b ∷ bs) are = bytes_drop n bs are.1

-- ---- numbers one behind the other

pub length-packed : (ws ns : List ℕ) → Fit ws ns → length (packed ws ns) ≡ total ws
length-packed [] [] fit = refl
length-packed [] (n ∷ ns) fit = refl
length-packed (w ∷ ws) [] fit = absurd fit
length-packed (w ∷ ws) (n ∷ ns) fit =
    length-append (bytes_of w n) (packed ws ns) ∙ rw (length_bytes_of w n, length-packed ws ns fit.1)

-- numbers that fit come back, whatever stands behind them
pub unpacked-packed : (ws ns rest : List ℕ) → Fit ws ns → unpacked ws (packed ws ns ++ rest) ≡ ns
unpacked-packed [] [] rest fit = refl
unpacked-packed [] (n ∷ ns) rest fit = absurd fit
unpacked-packed (w ∷ ws) [] rest fit = absurd fit
unpacked-packed (w ∷ ws) (n ∷ ns) rest fit =
    let len = length_bytes_of w n in
    let after = packed ws ns ++ rest in
    rw (append_assoc (bytes_of w n) (packed ws ns) rest)
    (rw (take_at (bytes_of w n) after w len, drop_at (bytes_of w n) after w len, number_of_bytes_of w n fit.0, unpacked-packed ws ns rest fit.1))

-- bytes enough for the widths come back, and the numbers read from them fit
pub packed-unpacked : (ws l : List ℕ) → AreBytes l → total ws ≤ length l → packed ws (unpacked ws l) ≡ take (total ws) l
packed-unpacked [] l are le = refl
packed-unpacked (w ∷ ws) l are le =
    let len = length-take-le w l (omega arith) in
    let one : bytes_of w (number_of (take w l)) ≡ take w l = rw len at (bytes_of_number_of (take w l) (bytes_take w l are)) in
    let more = packed-unpacked ws (drop w l) (bytes_drop w l are) (omega (arith, length-drop w l)) in
    rw (one, more) (sym (take-add w (total ws) l))

pub fit_unpacked : (ws l : List ℕ) → AreBytes l → total ws ≤ length l → Fit ws (unpacked ws l)
fit_unpacked [] l are le = tt
fit_unpacked (w ∷ ws) l are le = (
  rw (length-take-le w l (omega arith)) at (number_of_fits (take w l) (bytes_take w l are)),
  fit_unpacked ws (drop w l) (bytes_drop w l are) (omega (arith, length-drop w l)),
)

-- ---- return counts

-- within 31 bits on either side of zero
abbrev pub InSigned : ℤ → Type 0
InSigned (pos n) = n < 2147483648
InSigned (negsuc n) = n < 2147483648

pub signed-twos_complement : (z : ℤ) → InSigned z → signed (twos_complement z) ≡ z
signed-twos_complement (pos n) lt = rw (lt-ltb n 2147483648 lt)
signed-twos_complement (negsuc n) lt =
    let back : 4294967295 - (4294967295 - n) ≡ n = omega arith in
    rw (le-ltb (4294967295 - n) 2147483648 (omega arith), back)

pub twos_complement_fits : (z : ℤ) → InSigned z → twos_complement z < 256 ^ 4
twos_complement_fits (pos n) lt = omega arith
twos_complement_fits (negsuc n) lt = omega arith

pub twos_complement-signed : (n : ℕ) → n < 256 ^ 4 → twos_complement (signed n) ≡ n
twos_complement-signed n lt = go (ltb n 2147483648) refl
  where
    go : (b : Bool) → ltb n 2147483648 ≡ b → twos_complement (if b then pos n else negsuc (4294967295 - n)) ≡ n
    go true e = refl
    go false e = omega arith
