-- What the definitions of specs/Counted.antt come to: each with its last or its first number taken off, as a loop needs it, and what tests and
-- sums tell of single numbers (lists are in proofs/ListLaws.antt). Assumes nothing.
use Rattle.std.specs.Prelude.{◌≡◌, refl, Bool, true, false, not, List, [], ◌∷◌, ◌++◌, ◌⊎◌, ℕ, zero, suc, ◌+◌, ◌-◌, ◌<◌, ◌≤◌, if◌then◌else◌}
use Rattle.std.proofs.Common.{sym, ◌∙◌, append-nil, append_assoc, inl, inr, ⊎_elim, zero-add, add-zero, add-suc, suc-add, arith}
use Rattle.std.proofs.Math.Decide.{ℕ_discrete}
use Rattle.std.proofs.Math.Nat.{sub-zero}
use Rattle.std.proofs.Math.Numerals.{add-one}
use Rattle.std.proofs.lemmas.Bool.{not-true, not-false}
use Rattle.terms.specs.Choose.{◌and◌}
use Rattle.terms.specs.Counted.{every_from, every, lowest_from, lowest, sum_from, sum, one, how_many, list_from, list, gather_from, gather}
use Rattle.terms.proofs.ChooseLaws.{and_passes}

-- a number up to n is n or below n
pub last_or_below : {n k : ℕ} → k < suc n → (k ≡ n) ⊎ (k < n)
last_or_below {n} {k} lt = elim (ℕ_discrete k n) [ yes e ↦ inl e | no ne ↦ inr (omega arith) ]

-- ---- the last number taken off

-- all pass exactly where all but the last do, and the last
every_from_last : (k n : ℕ) (test : ℕ → Bool) → every_from k (suc n) test ≡ (every_from k n test and test (k + n))
unfolding every_from
every_from_last k zero test = rw add-zero (elim (test k) as (λ b. (if b then true else false) ≡ b) [ true ↦ refl | false ↦ refl ])
every_from_last k (suc n) test = go (test k) (every_from_last (suc k) n test ∙ rw (suc-add, add-suc))
  where
    go : (b : Bool) → every_from (suc k) (suc n) test ≡ (every_from (suc k) n test and test (k + suc n))
        → (if b then every_from (suc k) (suc n) test else false) ≡ ((if b then every_from (suc k) n test else false) and test (k + suc n))
    go true rest = rest
    go false rest = refl

-- a sum is that of all but the last, and the last
sum_from_last : (k n : ℕ) (f : ℕ → ℕ) → sum_from k (suc n) f ≡ sum_from k n f + f (k + n)
unfolding sum_from
sum_from_last k zero f = rw (add-zero k) (omega arith)
sum_from_last k (suc n) f = rw (sum_from_last (suc k) n f, suc-add, add-suc) (omega arith)

-- a list is that of all but the last, and the last
list_from_last : {A : Type 0} (k n : ℕ) (f : ℕ → A) → list_from k (suc n) f ≡ list_from k n f ++ (f (k + n) ∷ [])
unfolding list_from
list_from_last k zero f = rw add-zero
list_from_last k (suc n) f = rw (list_from_last (suc k) n f, suc-add, add-suc)

-- lists one behind the other are all but the last, and the last
gather_from_last : {A : Type 0} (k n : ℕ) (f : ℕ → List A) → gather_from k (suc n) f ≡ gather_from k n f ++ f (k + n)
unfolding gather_from
gather_from_last k zero f = rw (add-zero, append-nil)
gather_from_last k (suc n) f = rw (gather_from_last (suc k) n f, suc-add, add-suc, append_assoc)

-- counted from 0, the last of n + 1 numbers is n: of every
every_last : (n : ℕ) (test : ℕ → Bool) → every (suc n) test ≡ (every n test and test n)
every_last n test = every_from_last 0 n test ∙ rw zero-add

-- the same of a sum
pub sum_last : (n : ℕ) (f : ℕ → ℕ) → sum (suc n) f ≡ sum n f + f n
sum_last n f = sum_from_last 0 n f ∙ rw zero-add

-- the same of a list
pub list_last : {A : Type 0} (n : ℕ) (f : ℕ → A) → list (suc n) f ≡ list n f ++ (f n ∷ [])
list_last n f = list_from_last 0 n f ∙ rw zero-add

-- the same of lists gathered
pub gather_last : {A : Type 0} (n : ℕ) (f : ℕ → List A) → gather (suc n) f ≡ gather n f ++ f n
gather_last n f = gather_from_last 0 n f ∙ rw zero-add

-- ---- the first number taken off

-- the numbers from i on that are below n: i itself and the rest
module _ {i n : ℕ} (lt : i < n) where
  rest : n - i ≡ suc (n - (i + 1))
  rest = omega arith

  module _ (test : ℕ → Bool) where
    -- where i passes, every one passes where the rest do
    every_from_passes : test i ≡ true → every_from i (n - i) test ≡ every_from (i + 1) (n - (i + 1)) test
    unfolding every_from
    every_from_passes e = rw (rest, add-one, e)

    -- where i fails, not every one passes
    every_from_fails : test i ≡ false → every_from i (n - i) test ≡ false
    unfolding every_from
    every_from_fails e = rw (rest, e)

    -- where i passes, it is the lowest
    pub lowest_from_passes : test i ≡ true → lowest_from i (n - i) test ≡ i
    unfolding lowest_from
    lowest_from_passes e = rw (rest, e)

    -- where i fails, the lowest is that of the rest
    pub lowest_from_fails : test i ≡ false → lowest_from i (n - i) test ≡ lowest_from (i + 1) (n - (i + 1)) test
    unfolding lowest_from
    lowest_from_fails e = rw (rest, add-one, e)

  -- a list from i on is f i and the list of the rest
  pub list_from_first : {A : Type 0} (f : ℕ → A) → list_from i (n - i) f ≡ f i ∷ list_from (i + 1) (n - (i + 1)) f
  unfolding list_from
  list_from_first f = rw (rest, add-one)

  -- lists from i on, one behind the other, are f i and those of the rest
  pub gather_from_first : {A : Type 0} (f : ℕ → List A) → gather_from i (n - i) f ≡ f i ++ gather_from (i + 1) (n - (i + 1)) f
  unfolding gather_from
  gather_from_first f = rw (rest, add-one)

-- from n on there are none
none_from : {i n : ℕ} → n ≤ i → n - i ≡ 0
none_from le = omega arith

-- so every one of them passes
every_from_none : {i n : ℕ} → n ≤ i → (test : ℕ → Bool) → every_from i (n - i) test ≡ true
unfolding every_from
every_from_none le test = rw (none_from le)

-- the lowest is the one after them
pub lowest_from_none : {i n : ℕ} → n ≤ i → (test : ℕ → Bool) → lowest_from i (n - i) test ≡ i
unfolding lowest_from
lowest_from_none le test = rw (none_from le)

-- the list is empty
pub list_from_none : {A : Type 0} {i n : ℕ} → n ≤ i → (f : ℕ → A) → list_from i (n - i) f ≡ []
unfolding list_from
list_from_none le f = rw (none_from le)

-- and nothing is gathered
pub gather_from_none : {A : Type 0} {i n : ℕ} → n ≤ i → (f : ℕ → List A) → gather_from i (n - i) f ≡ []
unfolding gather_from
gather_from_none le f = rw (none_from le)

-- ---- a loop that tests the numbers below a limit

-- none below i has failed: the whole test is that of the numbers from i on
pub record Tested (whole : Bool) (limit : ℕ) (test : ℕ → Bool) (i : ℕ) : Type 0 where
  pub low : i ≤ limit
  pub rest : whole ≡ every_from i (limit - i) test

-- nothing is tested yet
pub tested_none : {whole : Bool} {limit : ℕ} {test : ℕ → Bool} → whole ≡ every limit test → Tested whole limit test 0
tested_none {limit = limit} e = record { low = omega arith; rest = e ∙ rw (sub-zero limit) }

module _ {whole : Bool} {limit : ℕ} {test : ℕ → Bool} {i : ℕ} (t : Tested whole limit test i) where
  -- i, as b says, fails, and so does the whole
  pub tested_fails : i < limit → {b : Bool} → b ≡ test i → not b ≡ true → false ≡ whole
  tested_fails lt {b} e fails = sym (t.rest ∙ every_from_fails lt test (sym e ∙ not-true b fails))

  -- i passes
  pub tested_more : i < limit → {b : Bool} → b ≡ test i → not b ≡ false → Tested whole limit test (i + 1)
  tested_more lt {b} e passes = record { low = omega arith; rest = t.rest ∙ every_from_passes lt test (sym e ∙ not-false b passes) }

  -- all have passed
  pub tested_all : limit ≤ i → true ≡ whole
  tested_all le = sym (t.rest ∙ every_from_none le test)

-- ---- every

-- where every number below n passes, each does
pub every_at : (n : ℕ) (test : ℕ → Bool) → every n test ≡ true → (k : ℕ) → k < n → test k ≡ true
every_at zero test e k lt = absurd (omega arith)
every_at (suc n) test e k lt =
    let both = (and_passes (every n test) (test n)).0 (sym (every_last n test) ∙ e) in
    ⊎_elim (λ q. rw q both.1) (λ low. every_at n test both.0 k low) (last_or_below lt)

-- where each number below n passes, every one does
pub every_all : (n : ℕ) (test : ℕ → Bool) → ((k : ℕ) → k < n → test k ≡ true) → every n test ≡ true
unfolding every_from
every_all zero test h = refl
every_all (suc n) test h =
    let below = every_all n test (λ k lt. h k (omega arith)) in
    every_last n test ∙ (and_passes (every n test) (test n)).1 (below, h n (omega arith))

-- ---- lowest

-- the test passes at the lowest of the n numbers from k on, where one of them passes
lowest_from_at : (k n : ℕ) (test : ℕ → Bool) → lowest_from k n test < k + n → test (lowest_from k n test) ≡ true
unfolding lowest_from
lowest_from_at k zero test lt = absurd (omega arith)
lowest_from_at k (suc n) test lt = go (test k) refl (lowest_from_at (suc k) n test) lt
  where
    go : (b : Bool) → test k ≡ b → (lowest_from (suc k) n test < suc k + n → test (lowest_from (suc k) n test) ≡ true)
        → (if b then k else lowest_from (suc k) n test) < k + suc n → test (if b then k else lowest_from (suc k) n test) ≡ true
    go true e later lt = e
    go false e later lt = later (omega arith)

-- so it does at the lowest number below n
pub lowest_passes : (n : ℕ) (test : ℕ → Bool) → lowest n test < n → test (lowest n test) ≡ true
lowest_passes n test lt = lowest_from_at 0 n test (omega arith)

-- ---- sums

-- where f is nowhere more than g, neither is its sum
sum_le : (n : ℕ) (f g : ℕ → ℕ) → ((k : ℕ) → k < n → f k ≤ g k) → sum n f ≤ sum n g
unfolding sum_from
sum_le zero f g h = omega arith
sum_le (suc n) f g h = rw (sum_last n f, sum_last n g) (omega (arith, sum_le n f g (λ k lt. h k (omega arith)), h n (omega arith)))

-- and where it is less at one number, its sum is less
sum_lt : (n : ℕ) (f g : ℕ → ℕ) → ((k : ℕ) → k < n → f k ≤ g k) → (k : ℕ) → k < n → f k < g k → sum n f < sum n g
sum_lt zero f g h k lt less = absurd (omega arith)
sum_lt (suc n) f g h k lt less =
    let below : (i : ℕ) → i < n → f i ≤ g i = λ i low. h i (omega arith) in
    rw (sum_last n f, sum_last n g)
    (⊎_elim (λ q. let last : f n < g n = rw q at less in omega (arith, sum_le n f g below))
    (λ low. omega (arith, sum_lt n f g below k low less, h n (omega arith)))
    (last_or_below lt))

-- where f is 0 everywhere, so is its sum
pub sum_zero : (n : ℕ) (f : ℕ → ℕ) → ((k : ℕ) → k < n → f k ≡ 0) → sum n f ≡ 0
unfolding sum_from
sum_zero zero f h = refl
sum_zero (suc n) f h = rw (sum_last n f) (omega (arith, sum_zero n f (λ k lt. h k (omega arith)), h n (omega arith)))

-- each part is at most the sum; so where the sum is 0, each part is
pub sum_at : (n : ℕ) (f : ℕ → ℕ) (k : ℕ) → k < n → f k ≤ sum n f
sum_at zero f k lt = absurd (omega arith)
sum_at (suc n) f k lt = rw (sum_last n f) (⊎_elim (λ q. rw q (omega arith)) (λ low. omega (arith, sum_at n f k low)) (last_or_below lt))

-- ---- how many

-- a test counts for no more than one that passes wherever it does
one_le : (a b : Bool) → (a ≡ true → b ≡ true) → one a ≤ one b
one_le true b h = rw (h refl) (omega arith)
one_le false b h = omega arith

-- where q passes wherever p does, no more numbers pass p than q
pub how_many_le : (n : ℕ) (p q : ℕ → Bool) → ((k : ℕ) → k < n → p k ≡ true → q k ≡ true) → how_many n p ≤ how_many n q
how_many_le n p q h = sum_le n _ _ (λ k lt. one_le (p k) (q k) (h k lt))

-- and fewer, where a number passes q alone
pub how_many_lt : (n : ℕ) (p q : ℕ → Bool) → ((k : ℕ) → k < n → p k ≡ true → q k ≡ true)
    → (k : ℕ) → k < n → p k ≡ false → q k ≡ true → how_many n p < how_many n q
how_many_lt n p q h k lt fails passes = sum_lt n _ _ (λ i low. one_le (p i) (q i) (h i low)) k lt (rw (fails, passes) (omega arith))

-- of n numbers, at most n pass
pub how_many_bound : (n : ℕ) (test : ℕ → Bool) → how_many n test ≤ n
unfolding sum_from
how_many_bound zero test = omega arith
how_many_bound (suc n) test = rw (sum_last n (λ k. one (test k))) (omega (arith, how_many_bound n test, one_le (test n) true (λ e. refl)))

-- where none passes, each fails
pub how_many_none : (n : ℕ) (test : ℕ → Bool) → how_many n test ≡ 0 → (k : ℕ) → k < n → test k ≡ false
how_many_none n test none k lt = go (test k) (sum_at n (λ i. one (test i)) k lt)
  where
    go : (b : Bool) → one b ≤ how_many n test → b ≡ false
    go true part = absurd (omega arith)
    go false part = refl
