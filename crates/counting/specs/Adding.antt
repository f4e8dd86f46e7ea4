-- Numbers that can be added and taken off again, and sums of them: how a sum changes when one of its numbers is replaced. Natural numbers
-- count references; return counts may be whole numbers, or remainders where they are kept in two bytes. Assumes nothing.
use Rattle.std.specs.Prelude.{◌≡◌, ◌≢◌, ℤ, pos, ◌+ℤ◌, ◌-ℤ◌}
use Rattle.std.proofs.Math.Path.{refl, ap, ap₂}
use Rattle.std.proofs.Common.{sym, ◌∙◌, arith}
use Prim.Native.Nat.{ℕ, zero, suc, ◌+◌, ◌≤◌, ◌<◌}
use Rattle.std.proofs.Math.Decide.{ℕ_discrete}
use Rattle.std.proofs.Math.IntN.{+ℤ_assoc, +ℤ_comm, +ℤ_idr, +ℤ-neg_ℤ_cancel}
use Rattle.terms.specs.Counted.{sum_from, sum}
use Rattle.terms.specs.CountedLaws.{Some}

-- an addition that loses nothing
pub record Adding : Type 1 where
  pub Number : Type 0
  pub nought : Number
  pub plus : Number → Number → Number
  pub assoc : (a b c : Number) → plus (plus a b) c ≡ plus a (plus b c)
  pub comm : (a b : Number) → plus a b ≡ plus b a
  pub unit : (a : Number) → plus a nought ≡ a
  pub cancel : (a b c : Number) → plus a c ≡ plus b c → a ≡ b

-- natural numbers
abbrev pub natural : Adding
natural = record {
  Number = ℕ;
  nought = 0;
  plus = λ a b. a + b;
  assoc = λ a b c. omega arith;
  comm = λ a b. omega arith;
  unit = λ a. omega arith;
  cancel = λ a b c e. omega arith;
}

-- whole numbers
abbrev pub whole : Adding
whole = record {
  Number = ℤ;
  nought = pos 0;
  plus = λ a b. a +ℤ b;
  assoc = +ℤ_assoc;
  comm = +ℤ_comm;
  unit = +ℤ_idr;
  cancel = λ a b c e. sym (+ℤ-neg_ℤ_cancel a c) ∙ ap (λ (x : ℤ). x -ℤ c) e ∙ +ℤ-neg_ℤ_cancel b c;
}

module _ (A : Adding) where
  -- the sum of f k over the n numbers k from k on
  unfoldable pub total_from : ℕ → ℕ → (ℕ → A.Number) → A.Number
  total_from k zero f = A.nought
  total_from k (suc n) f = A.plus (f k) (total_from (suc k) n f)

  -- the sum over the numbers below n
  abbrev pub total : ℕ → (ℕ → A.Number) → A.Number
  total n f = total_from 0 n f

  -- ---- sums in another order

  -- the second of three goes first
  pub swap : (a b c : A.Number) → A.plus a (A.plus b c) ≡ A.plus b (A.plus a c)
  swap a b c = sym (A.assoc a b c) ∙ ap (λ x. A.plus x c) (A.comm a b) ∙ A.assoc b a c

  -- two pairs, first with first and second with second
  pub pairs : (a b c d : A.Number) → A.plus (A.plus a b) (A.plus c d) ≡ A.plus (A.plus a c) (A.plus b d)
  pairs a b c d = A.assoc a b (A.plus c d) ∙ ap (A.plus a) (swap b c d) ∙ sym (A.assoc a c (A.plus b d))

  -- ---- one number replaced

  -- the same numbers, the same sum
  total_from_same : (k n : ℕ) (f g : ℕ → A.Number) → ((i : ℕ) → k ≤ i → i < k + n → g i ≡ f i) → total_from k n g ≡ total_from k n f
  unfolding total_from
  total_from_same k zero f g same = refl
  total_from_same k (suc n) f g same =
      ap₂ A.plus (same k (omega arith) (omega arith)) (total_from_same (suc k) n f g (λ i low lt. same i (omega arith) (omega arith)))

  -- the first replaced, or one of the rest
  first_replaced : (a b c d rest rest' : A.Number) → a ≡ c → b ≡ d → rest' ≡ rest → A.plus (A.plus d rest') c ≡ A.plus (A.plus a rest) b
  first_replaced a b c d rest rest' ea eb er =
      rw (er, ← ea, ← eb) (A.comm (A.plus b rest) a ∙ swap a b rest ∙ A.comm b (A.plus a rest))

  rest_replaced : (a b c d rest rest' : A.Number) → d ≡ c → A.plus rest' a ≡ A.plus rest b
      → A.plus (A.plus d rest') a ≡ A.plus (A.plus c rest) b
  rest_replaced a b c d rest rest' ed er = rw ed (A.assoc c rest' a ∙ ap (A.plus c) er ∙ sym (A.assoc c rest b))

  -- one of the n numbers from k on replaced
  total_from_replaced : (k n : ℕ) (f g : ℕ → A.Number) (p : ℕ) → k ≤ p → p < k + n → ((i : ℕ) → k ≤ i → i < k + n → i ≢ p → g i ≡ f i)
      → A.plus (total_from k n g) (f p) ≡ A.plus (total_from k n f) (g p)
  unfolding total_from
  total_from_replaced k zero f g p low lt same = absurd (omega arith)
  total_from_replaced k (suc n) f g p low lt same = elim (ℕ_discrete p k) [
    | yes e ↦
        first_replaced (f k) (g p) (f p) (g k) (total_from (suc k) n f) (total_from (suc k) n g) (ap f (sym e)) (ap g e)
        (total_from_same (suc k) n f g (λ i above below. same i (omega arith) (omega arith) (λ q. absurd (omega arith))))
    | no ne ↦
        rest_replaced (f p) (g p) (f k) (g k) (total_from (suc k) n f) (total_from (suc k) n g) (same k (omega arith) (omega arith) (λ q. ne (sym q)))
        (total_from_replaced (suc k) n f g p (omega arith) (omega arith) (λ i above below. same i (omega arith) (omega arith)))
  ]

  -- f and g differ at p at most: the new sum and the old number are the old sum and the new number
  pub total_replaced : (n : ℕ) (f g : ℕ → A.Number) (p : ℕ) → p < n → ((i : ℕ) → i < n → i ≢ p → g i ≡ f i)
      → A.plus (total n g) (f p) ≡ A.plus (total n f) (g p)
  total_replaced n f g p lt same = total_from_replaced 0 n f g p (omega arith) (omega arith) (λ i low below. same i (omega arith))

  -- ---- nothing to add

  -- so many times nought
  nothing_from : (k n : ℕ) → total_from k n (λ i. A.nought) ≡ A.nought
  unfolding total_from
  nothing_from k zero = refl
  nothing_from k (suc n) = ap (A.plus A.nought) (nothing_from (suc k) n) ∙ A.unit A.nought

  -- where f is nought everywhere but at p, its sum is what it is at p
  pub total_only : (n : ℕ) (f : ℕ → A.Number) (p : ℕ) → p < n → ((i : ℕ) → i < n → i ≢ p → f i ≡ A.nought) → total n f ≡ f p
  total_only n f p lt same =
      sym (A.unit (total n f))
      ∙ sym (total_replaced n f (λ i. A.nought) p lt (λ i below ne. sym (same i below ne)))
      ∙ rw (nothing_from 0 n) (A.comm A.nought (f p) ∙ A.unit (f p))

  -- where f is nought everywhere, so is its sum
  pub total_nothing : (n : ℕ) (f : ℕ → A.Number) → ((i : ℕ) → i < n → f i ≡ A.nought) → total n f ≡ A.nought
  total_nothing n f same = total_from_same 0 n (λ i. A.nought) f (λ i low below. same i (omega arith)) ∙ nothing_from 0 n

-- ---- sums of natural numbers

-- they are sums of this sort
sum_from_is : (k n : ℕ) (f : ℕ → ℕ) → sum_from k n f ≡ total_from natural k n f
unfolding sum_from total_from
sum_from_is k zero f = refl
sum_from_is k (suc n) f = rw (sum_from_is (suc k) n f)

-- the new sum and the old number are the old sum and the new number
pub sum_replaced : (n : ℕ) (f g : ℕ → ℕ) (p : ℕ) → p < n → ((i : ℕ) → i < n → i ≢ p → g i ≡ f i) → sum n g + f p ≡ sum n f + g p
sum_replaced n f g p lt same = rw (sum_from_is 0 n f, sum_from_is 0 n g) (total_replaced natural n f g p lt same)

-- a sum above 0 has a part above 0
some_from : (k n : ℕ) (f : ℕ → ℕ) → 0 < sum_from k n f → (i : ℕ) × (i < k + n) × (0 < f i)
unfolding sum_from
some_from k zero f more = absurd (omega arith)
some_from k (suc n) f more = elim (ℕ_discrete (f k) 0) [
  | yes e ↦ let found = some_from (suc k) n f (omega arith) in (found.0, omega arith, found.2)
  | no ne ↦ (k, omega arith, omega arith)
]

-- the same of a sum from 0
pub sum_some : (n : ℕ) (f : ℕ → ℕ) → 0 < sum n f → Some n (λ i. 0 < f i)
sum_some n f more = let found = some_from 0 n f more in (found.0, omega arith, found.2)
