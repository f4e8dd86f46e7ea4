-- Numbers in decimal: the library writes them as the rules do, and how many digits there are at most. Assumes nothing.
use Rattle.std.proofs.Common.{◌≡◌, ℕ, zero, suc, ◌/◌, ◌%◌, ◌^◌, ◌<◌, ◌≤◌, [], ◌∷◌, ◌++◌, length, length-append, pow-suc, div-lt_iff_lt-mul, arith, lt-ltb, le-ltb}
use Rattle.std.proofs.Math.Decide.{dec_lt}
use Rattle.std.proofs.lemmas.Fmt.{AppendsLastDigit, decimal_from_appends, length-decimal-le}
use Rattle.std.specs.Fmt as fmt
use Rattle.run.specs.Text.{decimal_in, decimal, digit}

-- the last digit stands last
appends : AppendsLastDigit decimal_in
appends = record {
  one = λ k n lt. simp (lt-ltb n 10 lt);
  more = λ k n le. simp (le-ltb n 10 le);
}

-- a number of 64 bits is written as the library writes it
pub same_decimal : (n : ℕ) → n < 2 ^ 64 → decimal n ≡ fmt.decimal n
unfolding decimal
same_decimal n lt = decimal_from_appends decimal_in appends 20 n lt (length-decimal-le 20 n (omega arith) (omega arith) lt)

-- a tenth has a digit less
tenth : (k n : ℕ) → n < 10 ^ suc k → n / 10 < 10 ^ k
tenth k n lt = (div-lt_iff_lt-mul {k = 10} {x = n} {y = 10 ^ k} (omega arith)).1 (rw pow-suc at lt)

-- a number below a power of ten has no more digits than that power has noughts
digits_most : (k j n : ℕ) → n < 10 ^ suc j → length (decimal_in k n) ≤ suc j
digits_most zero j n lt = omega arith
digits_most (suc k) j n lt = go (dec_lt n 10) (λ i. digits_most k i (n / 10))
  where
    below : (j : ℕ) → n < 10 ^ suc j → 10 ≤ n → ((i : ℕ) → n / 10 < 10 ^ suc i → length (decimal_in k (n / 10)) ≤ suc i)
        → length (decimal_in k (n / 10) ++ digit (n % 10) ∷ []) ≤ suc j
    below zero lt le front = absurd (omega arith)
    below (suc j) lt le front = rw length-append (omega (arith, front j (tenth (suc j) n lt)))

    go : Dec (n < 10) → ((i : ℕ) → n / 10 < 10 ^ suc i → length (decimal_in k (n / 10)) ≤ suc i) → length (decimal_in (suc k) n) ≤ suc j
    go (yes small) front = rw (appends.one k n small) (omega arith)
    go (no ge) front = rw (appends.more k n (omega arith)) (below j lt (omega arith) front)

pub decimal_most : (j n : ℕ) → n < 10 ^ suc j → length (decimal n) ≤ suc j
unfolding decimal
decimal_most j n lt = digits_most 20 j n lt
