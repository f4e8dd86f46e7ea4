-- What is said of the numbers below a bound: all, how many, the lowest, a sum, a list. Definitions only; assumes nothing.
use Rattle.std.specs.Prelude.{Bool, true, false, List, [], ◌∷◌, ◌++◌, ℕ, zero, suc, ◌+◌, eqb, if◌then◌else◌}

-- each of the n numbers from k on passes the test
unfoldable pub every_from : ℕ → ℕ → (ℕ → Bool) → Bool
every_from k zero test = true
every_from k (suc n) test = if test k then every_from (suc k) n test else false

-- each number below n passes the test
abbrev pub every : ℕ → (ℕ → Bool) → Bool
every n test = every_from 0 n test

-- the lowest of the n numbers from k on that passes the test; the one after them where none does
unfoldable pub lowest_from : ℕ → ℕ → (ℕ → Bool) → ℕ
lowest_from k zero test = k
lowest_from k (suc n) test = if test k then k else lowest_from (suc k) n test

-- the lowest number below n that passes the test, or n
abbrev pub lowest : ℕ → (ℕ → Bool) → ℕ
lowest n test = lowest_from 0 n test

-- the sum of f k over the n numbers k from k on
unfoldable pub sum_from : ℕ → ℕ → (ℕ → ℕ) → ℕ
sum_from k zero f = 0
sum_from k (suc n) f = f k + sum_from (suc k) n f

-- the sum of f k over the numbers k below n
abbrev pub sum : ℕ → (ℕ → ℕ) → ℕ
sum n f = sum_from 0 n f

-- one for a test that passes, so that a sum of such counts
abbrev pub one : Bool → ℕ
one b = if b then 1 else 0

-- how many numbers below n pass the test
abbrev pub how_many : ℕ → (ℕ → Bool) → ℕ
how_many n test = sum n (λ k. one (test k))

-- f k for the n numbers k from k on, in a list
unfoldable pub list_from : {A : Type 0} → ℕ → ℕ → (ℕ → A) → List A
list_from k zero f = []
list_from k (suc n) f = f k ∷ list_from (suc k) n f

-- f 0, f 1, up to below n
abbrev pub list : {A : Type 0} → ℕ → (ℕ → A) → List A
list n f = list_from 0 n f

-- the lists f k for the n numbers k from k on, one behind the other
unfoldable pub gather_from : {A : Type 0} → ℕ → ℕ → (ℕ → List A) → List A
gather_from k zero f = []
gather_from k (suc n) f = f k ++ gather_from (suc k) n f

-- the lists f 0, f 1, up to below n, one behind the other
abbrev pub gather : {A : Type 0} → ℕ → (ℕ → List A) → List A
gather n f = gather_from 0 n f

-- the list holds x
unfoldable pub holds : List ℕ → ℕ → Bool
holds [] x = false
holds (y ∷ ys) x = if eqb y x then true else holds ys x

-- each element of the list passes the test
unfoldable pub all : (ℕ → Bool) → List ℕ → Bool
all test [] = true
all test (x ∷ xs) = if test x then all test xs else false
