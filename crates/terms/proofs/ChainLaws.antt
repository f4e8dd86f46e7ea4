-- What std's calls tell, said by the definitions of terms: `all` over a list, `find` over a range. Assumes nothing.
use Rattle.std.specs.Prelude.{◌≡◌, refl, Bool, true, false, ◌&&◌, List, [], ◌∷◌, ℕ, zero, suc, ◌+◌, ◌-◌, ◌<◌, ◌≤◌, Option, None, Some, length, get_or, if◌then◌else◌}
use Rattle.std.specs.Fn.{Called, CalledAt}
use Rattle.std.specs.Iterator.{YieldsThen}
use Rattle.std.specs.List.{list_all, FoldsTo}
use Rattle.std.specs.Option.{MatchOption, unwrap_or}
use Rattle.std.specs.Slice.Iter.{iter_rest}
use Rattle.std.specs.declared.ops.Range.{Range}
use Rattle.std.specs.Bool.{⊤}
use denote.Param.Members.{Mut}
use Rattle.std.proofs.Common.{Bor, Iter, sym, ◌∙◌, zero-add, add-zero, add-suc, suc-add, add-one, arith}
use Rattle.std.proofs.Math.Nat.{sub-zero}
use Rattle.std.proofs.iter.Yields.{fronts, nat_range_steps}
use Rattle.std.proofs.lemmas.Iterator.{YieldsList-from_slice, first_from_Range}
use Rattle.std.proofs.lemmas.Iterator.Search.{all_from_yields_List}
use Rattle.terms.specs.Counted.{every_from, every, lowest_from, lowest}
use Rattle.terms.proofs.CountedLaws.{lowest_from_passes, lowest_from_fails, lowest_from_none}

-- all of a list pass where the test passes at each of its places, counted from k
list_all-every_from : {A : Type 0} (p : A → Bool) (d : A) (xs : List A) (k : ℕ) (test : ℕ → Bool)
    → ((i : ℕ) → test (k + i) ≡ p (get_or xs i d)) → list_all p xs ≡ every_from k (length xs) test
unfolding every_from
list_all-every_from p d [] k test same = refl
list_all-every_from p d (x ∷ xs) k test same =
    rw (← rw add-zero at (same 0)) (
    go (test k) (list_all-every_from p d xs (suc k) test (λ i. rw suc-add (rw add-suc at (same (suc i))))))
  where
    go : (b : Bool) → list_all p xs ≡ every_from (suc k) (length xs) test
        → (b && list_all p xs) ≡ (if b then every_from (suc k) (length xs) test else false)
    go true rest = rest
    go false rest = refl

-- the same, counted from 0
list_all-every : {A : Type 0} (p : A → Bool) (d : A) (xs : List A) (n : ℕ) → length xs ≡ n → list_all p xs ≡ every n (λ k. p (get_or xs k d))
list_all-every p d xs n size = rw (← size) (list_all-every_from p d xs 0 (λ k. p (get_or xs k d)) (λ i. rw zero-add))

-- where none below i passes, the lowest is that of the numbers from i on
lowest-lowest_from : (n : ℕ) (test : ℕ → Bool) (i : ℕ) → i ≤ n → ((k : ℕ) → k < i → test k ≡ false) → lowest n test ≡ lowest_from i (n - i) test
lowest-lowest_from n test zero le none = rw sub-zero
lowest-lowest_from n test (suc i) le none =
    lowest-lowest_from n test i (omega arith) (λ k lt. none k (omega arith))
    ∙ rw (← add-one) (lowest_from_fails (omega arith) test (none i (omega arith)))

-- the first that passes is the lowest; n, where none does
lowest-first : (n : ℕ) (test : ℕ → Bool) (r : Option ℕ)
    → MatchOption r ((k : ℕ) → 0 ≤ k → k < n → test k ≡ false) (λ i. (0 ≤ i) × (i < n) × (test i ≡ true) × ((k : ℕ) → 0 ≤ k → k < i → test k ≡ false))
    → unwrap_or r n ≡ lowest n test
lowest-first n test None none =
    sym (lowest-lowest_from n test n (omega arith) (λ k lt. none k (omega arith) lt) ∙ lowest_from_none (omega arith) test)
lowest-first n test (Some i) first =
    let below = λ (k : ℕ) (lt : k < i). first.3 k (omega arith) lt in
    sym (lowest-lowest_from n test i (omega (arith, first.1)) below ∙ lowest_from_passes first.1 test first.2)

-- `find` over the numbers below n, whose closure computes the test, finds the lowest that passes
pub find-lowest : {F : Type 0} {g : Mut F (Bor ℕ × Unit {0}) Bool} (n : ℕ) (test : ℕ → Bool) (u : Range ℕ) (f : F) (r : Option ℕ)
    → (xs : List ℕ) × (j : F) × YieldsThen nat_range_steps (record { start = 0; end = n }) xs r u × FoldsTo (λ p x q. CalledAt g p x false q) f xs j
    × MatchOption r ⊤ (λ x. (h : F) × CalledAt g j x true h)
    → ((x : ℕ) (b : Bool) (q : F) → CalledAt g f x b q → (q ≡ f) × (b ≡ test x)) → unwrap_or r n ≡ lowest n test
find-lowest n test u f r ran tests =
    lowest-first n test r (
    first_from_Range (record { start = 0; end = n }) u f r (λ k. test k ≡ true) (λ k. test k ≡ false) ran
    (λ k q e. sym (tests k true q e).1)
    (λ k q e. let t = tests k false q e in (t.0, sym t.1)))

-- `all` over a slice, whose closure computes the test, says whether each of its n elements passes
pub all-every : {A F : Type 0} {g : Mut F (Bor A × Unit {0}) Bool} {s : Iter A} (test : A → Bool) (d : A) (xs : List A) (n : ℕ) (u : Iter A) (f : F) (r : Bool)
    → (ys : List (Bor A)) × (o : Option (Bor A)) × (j : F) × YieldsThen fronts s ys o u × FoldsTo (λ p x q. Called g p (x, tt) true q) f ys j
    × MatchOption o (r ≡ true) (λ x. (r ≡ false) × ((h : F) × Called g j (x, tt) false h))
    → iter_rest s ≡ xs → length xs ≡ n → ((x : Bor A) (b : Bool) (q : F) → Called g f (x, tt) b q → (q ≡ f) × (b ≡ test x.now))
    → r ≡ every n (λ k. test (get_or xs k d))
all-every test d xs n u f r ran rest size tests =
    all_from_yields_List test u f r ran (YieldsList-from_slice xs rest) tests ∙ list_all-every test d xs n size
