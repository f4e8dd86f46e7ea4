-- What std counts and adds up over a range, said by the definitions of terms; and what one deed adds to a run's counts. Assumes nothing.
use Rattle.std.proofs.Common.{◌≡◌, refl, ap, ◌∙◌, ℕ, zero, suc, ◌+◌, ◌≤◌, Bool, List, length, add-one, arith}
use Rattle.std.proofs.iter.Yields.{nat_range_steps}
use Rattle.std.proofs.lemmas.Iterator.{YieldsList-from_range}
use Rattle.std.proofs.lemmas.Iterator.Consumers.{YieldsList-from_filter, count_from_yields_List}
use Rattle.std.proofs.lemmas.List.Sums.{length-filter, sum_by-cons}
use Rattle.std.specs.Borrow.{Bor}
use Rattle.std.specs.Fn.{CalledAt}
use Rattle.std.specs.Iterator.{Drains}
use Rattle.std.specs.Iterator.Adapters.{filter_callee, filter_source, filter_steps}
use Rattle.std.specs.List.{range_with_len, sum_by}
use Rattle.std.specs.declared.iter.Filter.{Filter}
use Rattle.std.specs.declared.ops.Range.{Range}
use denote.Param.Members.{Mut}
use Rattle.terms.specs.Counted.{how_many, one, sum_from}
use Rattle.step.specs.Deed.{Deed}
use Rattle.step.specs.Deed.{Refused, Arranged, Born, Sent, CameHome, Made}
use Rattle.step.specs.Deed.{Merged, Answered, Settled, Collected, Dropped, Cleared}
use Rattle.step.specs.Outcome.{decrements_saved, decrements_sent}

-- the sum of f over a range
pub sum_by-range : (f : ℕ → ℕ) (k n : ℕ) → sum_by f (range_with_len k n) ≡ sum_from k n f
unfolding sum_from
sum_by-range f k zero = refl
sum_by-range f k (suc n) =
    sum_by-cons f k (range_with_len (k + 1) n)
    ∙ ap (λ (rest : ℕ). f k + rest) (sum_by-range f (k + 1) n ∙ ap (λ (j : ℕ). sum_from j n f) (add-one k))

-- a count of those below n that pass a test
module _ {F : Type 0} {g : Mut F (Bor ℕ × Unit {0}) Bool} {f : F} {s : Filter (Range ℕ) F} (test : ℕ → Bool) (n : ℕ) where
  pub how_many-filter : {r : ℕ} → filter_source s ≡ record { start = 0; end = n } → filter_callee s ≡ f
      → ((xs : List ℕ) × Drains (filter_steps nat_range_steps g) s xs × (r ≡ length xs))
      → ((k : ℕ) (b : Bool) (q : F) → CalledAt g f k b q → (q ≡ f) × (b ≡ test k)) → r ≡ how_many n test
  how_many-filter {r} source callee ran tests =
      count_from_yields_List s r ran (YieldsList-from_filter g test (YieldsList-from_range 0 n n source (omega arith)) callee tests)
      ∙ length-filter test (range_with_len 0 n)
      ∙ sum_by-range (λ k. one (test k)) 0 n

-- ---- what one deed adds to a run's counts

-- a deed sends or saves one decrement at most
pub one_decrement : (d : Deed) → decrements_sent d + decrements_saved d ≤ 1
one_decrement Refused = omega arith
one_decrement Arranged = omega arith
one_decrement (Born o) = omega arith
one_decrement (Sent s) = omega arith
one_decrement CameHome = omega arith
one_decrement Made = omega arith
one_decrement Merged = omega arith
one_decrement (Answered s) = omega arith
one_decrement Settled = omega arith
one_decrement (Collected n) = omega arith
one_decrement (Dropped s) = omega arith
one_decrement Cleared = omega arith
