-- What `all` tells of the numbers from 0 on beside the elements of a list, as `every` says it (of a list alone: ChainLaws). Assumes
-- nothing.
use Rattle.std.specs.Prelude.{◌≡◌, refl, Bool, true, false, if◌then◌else◌, Option, List, [], ◌∷◌, ℕ, zero, suc, ◌+◌, ◌<◌, get_or, length}
use Rattle.std.specs.Fn.{Called}
use Rattle.std.specs.Iterator.{YieldsThen}
use Rattle.std.specs.Iterator.Adapters.{zip_first, zip_second}
use Rattle.std.specs.List.{FoldsTo, list_all, range_with_len, zip}
use Rattle.std.specs.Option.{MatchOption}
use Rattle.std.specs.Slice.Iter.{iter_rest}
use Rattle.std.specs.declared.iter.Zip.{Zip}
use Rattle.std.specs.declared.ops.Range.{Range}
use denote.Param.Members.{Mut}
use Rattle.std.proofs.Common.{Bor, Iter, ap, ◌∙◌, zero-add, add-zero, add-one, arith}
use Rattle.std.proofs.Math.Bool.{◌&&◌}
use Rattle.std.proofs.iter.Yields.{fronts, nat_range_steps}
use Rattle.std.proofs.lemmas.Iterator.{YieldsList-from_range, YieldsList-from_slice, YieldsList-from_zip, zips}
use Rattle.std.proofs.lemmas.Iterator.Search.{all_from_yields_List}
use Rattle.terms.specs.Counted.{every_from, every}

-- std's "and" is a choice
and_if : (a b : Bool) → (a && b) ≡ (if a then b else false)
and_if true b = refl
and_if false b = refl

-- where the test of an element beside its number is that of the number
list_all-zip : {A : Type 0} (d : A) (xs : List A) (k n : ℕ) (test : ℕ × A → Bool) (f : ℕ → Bool) → length xs ≡ n
    → ((i : ℕ) → i < n → test (k + i, get_or xs i d) ≡ f (k + i)) → list_all test (zip (range_with_len k n) xs) ≡ every_from k n f
unfolding every_from
list_all-zip d [] k zero test f size same = refl
list_all-zip d [] k (suc n) test f size same = absurd (omega (arith, size))
list_all-zip d (x ∷ xs) k zero test f size same = absurd (omega (arith, size))
list_all-zip d (x ∷ xs) k (suc n) test f size same =
    let next : (i : ℕ) → k + 1 + i ≡ k + suc i = λ i. omega arith in
    let rest = list_all-zip d xs (k + 1) n test f (omega (arith, size)) (λ i lt. rw (next i) (same (suc i) (omega arith))) in
    let here = rw add-zero at (same 0 (omega arith)) in
    rw (rest, add-one) (and_if (test (k, x)) _ ∙ ap (λ (b : Bool). if b then every_from (suc k) n f else false) here)

-- `all` over the numbers below n beside n elements, whose closure computes the test, says whether each element passes beside its number
pub all-zip : {A F : Type 0} {g : Mut F ((ℕ × Bor A) × Unit {0}) Bool} {s : Zip (Range ℕ) (Iter A)} (test : ℕ → A → Bool) (d : A) (xs : List A) (n : ℕ)
    (u : Zip (Range ℕ) (Iter A)) (f : F) (r : Bool)
    → (ys : List (ℕ × Bor A)) × (o : Option (ℕ × Bor A)) × (j : F) × YieldsThen (zips nat_range_steps fronts) s ys o u × FoldsTo (λ p x q. Called g p (x, tt) true q) f ys j
    × MatchOption o (r ≡ true) (λ x. (r ≡ false) × ((h : F) × Called g j (x, tt) false h))
    → zip_first s ≡ record { start = 0; end = n } → iter_rest (zip_second s) ≡ xs → length xs ≡ n
    → ((x : ℕ × Bor A) (b : Bool) (q : F) → Called g f (x, tt) b q → (q ≡ f) × (b ≡ test x.0 x.1.now))
    → r ≡ every n (λ i. test i (get_or xs i d))
all-zip {A} {F} {g} {s} test d xs n u f r ran first second size tests =
    let both = YieldsList-from_zip {s = s} (YieldsList-from_range {s = zip_first s} 0 n n first (omega arith)) (YieldsList-from_slice {s = zip_second s} xs second) in
    all_from_yields_List (λ (x : ℕ × A). test x.0 x.1) u f r ran both tests
    ∙ list_all-zip d xs 0 n (λ x. test x.0 x.1) _ size (λ i lt. rw (zero-add i))
