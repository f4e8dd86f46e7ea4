-- What std's calls tell, said by the definitions of terms: `all` over a range, and an array made of a function. Assumes nothing.
use Rattle.std.specs.Prelude.{◌≡◌, refl, Bool, true, false, ◌&&◌, List, ◌∷◌, ℕ, zero, suc, ◌+◌, ◌<◌, ◌≤◌, Option, filter, get_or, length, if◌then◌else◌}
use Rattle.std.specs.Array.{IsFromFnResult, IsFromFnResultFrom}
use Rattle.std.specs.Fn.{Called, CalledAt}
use Rattle.std.specs.Iterator.{Drains, YieldsThen}
use Rattle.std.specs.Iterator.Adapters.{filter_callee, filter_source, filter_steps}
use Rattle.std.specs.List.{list_all, range_with_len, FoldsTo}
use Rattle.std.specs.Option.{MatchOption}
use Rattle.std.specs.declared.iter.Filter.{Filter}
use Rattle.std.specs.declared.ops.Range.{Range}
use denote.Param.Members.{Mut}
use Rattle.std.proofs.Common.{Bor, add-one, arith, ◌∙◌, ◌⊎◌, inl, inr}
use Rattle.std.proofs.iter.Yields.{nat_range_steps}
use Rattle.std.proofs.lemmas.Iterator.{YieldsList-from_range}
use Rattle.std.proofs.lemmas.Iterator.Consumers.{YieldsList-from_filter, count_from_yields_List}
use Rattle.std.proofs.lemmas.Iterator.Search.{all_from_yields_List}
use Rattle.terms.specs.Counted.{every, every_from, how_many, list, one, sum_from}
use Rattle.terms.proofs.ListLaws.{list_is}

-- a test of the n numbers from k on
list_all-range : (test : ℕ → Bool) (k n : ℕ) → list_all test (range_with_len k n) ≡ every_from k n test
unfolding every_from
list_all-range test k zero = refl
list_all-range test k (suc n) = go (test k) (rw add-one (list_all-range test (suc k) n))
  where
    go : (b : Bool) → list_all test (range_with_len (k + 1) n) ≡ every_from (suc k) n test
        → (b && list_all test (range_with_len (k + 1) n)) ≡ (if b then every_from (suc k) n test else false)
    go true rest = rest
    go false rest = refl

-- `all` over the numbers below n, whose closure computes the test, says whether each of them passes
pub all-range : {F : Type 0} {g : Mut F (ℕ × Unit {0}) Bool} (n : ℕ) (test : ℕ → Bool) (u : Range ℕ) (f : F) (r : Bool)
    → (xs : List ℕ) × (o : Option ℕ) × (j : F) × YieldsThen nat_range_steps (record { start = 0; end = n }) xs o u
    × FoldsTo (λ p x q. Called g p (x, tt) true q) f xs j
    × MatchOption o (r ≡ true) (λ x. (r ≡ false) × ((h : F) × Called g j (x, tt) false h))
    → ((x : ℕ) (b : Bool) (q : F) → Called g f (x, tt) b q → (q ≡ f) × (b ≡ test x)) → r ≡ every n test
all-range n test u f r ran tests = all_from_yields_List test u f r ran (YieldsList-from_range 0 n n refl (omega arith)) tests ∙ list_all-range test 0 n

-- how many of the n numbers from k on a filter keeps
length-filter-range : (test : ℕ → Bool) (k n : ℕ) → length (filter test (range_with_len k n)) ≡ sum_from k n (λ i. one (test i))
unfolding sum_from
length-filter-range test k zero = refl
length-filter-range test k (suc n) = go (test k) (rw add-one (length-filter-range test (suc k) n))
  where
    go : (b : Bool) → length (filter test (range_with_len (k + 1) n)) ≡ sum_from (suc k) n (λ i. one (test i))
        → length (if b then k ∷ filter test (range_with_len (k + 1) n) else filter test (range_with_len (k + 1) n))
        ≡ one b + sum_from (suc k) n (λ i. one (test i))
    go true rest = omega (arith, rest)
    go false rest = omega (arith, rest)

-- `count` of the numbers below n that a closure's test passes is how many do
pub count-how_many : {F : Type 0} {g : Mut F (Bor ℕ × Unit {0}) Bool} (n : ℕ) (test : ℕ → Bool) (s : Filter (Range ℕ) F) (f : F) (r : ℕ)
    → (xs : List ℕ) × Drains (filter_steps nat_range_steps g) s xs × (r ≡ length xs)
    → filter_source s ≡ record { start = 0; end = n } → filter_callee s ≡ f
    → ((x : ℕ) (b : Bool) (q : F) → CalledAt g f x b q → (q ≡ f) × (b ≡ test x)) → r ≡ how_many n test
count-how_many {g} n test s f r ran source callee tests =
    count_from_yields_List s r ran (YieldsList-from_filter g test (YieldsList-from_range 0 n n source (omega arith)) callee tests)
    ∙ length-filter-range test 0 n

-- a number from i on is i or above it
last_or_above : {i k : ℕ} → i ≤ k → (i ≡ k) ⊎ (i + 1 ≤ k)
last_or_above le = grind arith

-- an array made of a function of the index, by a closure that stays as it is
module _ {F B : Type 0} (g : Mut F (ℕ × Unit {0}) B) (closure : F) (f : ℕ → B) (d : B)
    (is : (k : ℕ) (y : B) (q : F) → Called g closure (k, tt) y q → (q ≡ closure) × (y ≡ f k)) where
  each : (ys : List B) (i n : ℕ) → IsFromFnResultFrom g closure ys i n → (k : ℕ) → i ≤ k → k < i + n → get_or ys k d ≡ f k
  each ys i zero made k le lt = absurd (omega arith)
  each ys i (suc n) made k le lt =
      let call = is i made.1 made.0 made.3 in
      elim (last_or_above le) [
        | inl e ↦ rw e at (made.2.1 d ∙ call.1)
        | inr above ↦ each ys (i + 1) n (rw call.0 at made.4) k above (omega arith)
      ]

  pub list-from_fn : (ys : List B) (n : ℕ) → IsFromFnResult g closure ys n → ys ≡ list n f
  list-from_fn ys n made = list_is n f d ys made.long (λ k lt. each ys 0 n made.each k (omega arith) (omega arith))
