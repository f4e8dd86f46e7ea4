-- A list of which one element was set: what stands where, and what holds of all of them still. Assumes nothing.
use Rattle.std.specs.Prelude.{◌≡◌, Bool, true, List, ◌⊎◌, ℕ, length, get_or, set}
use Rattle.std.proofs.Common.{inl, inr, ⊎_elim, arith, get_or-set_same, get_or-set_other}
use Rattle.std.proofs.Math.Decide.{ℕ_discrete, dec_lt}
use Rattle.std.proofs.Math.Seq.{set_out}
use Rattle.terms.specs.Counted.{every}
use Rattle.terms.proofs.CountedLaws.{every_all, every_at}

-- element j after element i was set is the new one or the old one
pub set_either : {A : Type 0} (l : List A) (i j : ℕ) (a d : A) → ((j ≡ i) × (get_or (set l i a) j d ≡ a)) ⊎ (get_or (set l i a) j d ≡ get_or l j d)
set_either l i j a d = elim (ℕ_discrete j i) [
  | yes same ↦ elim (dec_lt i (length l)) [
    | yes lt ↦ inl (same, rw same (get_or-set_same l i a d lt))
    | no past ↦ inr (rw (set_out l i a (omega arith)))
  ]
  | no other ↦ inr (get_or-set_other l i j a d other)
]

-- what holds of the new element, and of an element that stands at j, holds at j after the new one is set
pub set_all : {A : Type 0} (P : ℕ → A → Type 0) (l : List A) (i : ℕ) (x d : A) → P i x → (j : ℕ) → P j (get_or l j d) → P j (get_or (set l i x) j d)
set_all P l i x d px j pj = ⊎_elim (λ new. rw (new.1, new.0) px) (λ same. rw same pj) (set_either l i j x d)

-- where each of n elements passes a test, each does after one that passes is set
pub every_set : (n : ℕ) (test : ℕ → Bool) (l : List ℕ) (i x : ℕ) → test x ≡ true → every n (λ k. test (get_or l k 0)) ≡ true
    → every n (λ k. test (get_or (set l i x) k 0)) ≡ true
every_set n test l i x new old =
    every_all n _ (λ k low. set_all (λ j y. test y ≡ true) l i x 0 new k (every_at n (λ j. test (get_or l j 0)) old k low))
