-- What lists of numbers come to (`list`, `gather`, `holds`, `all` of specs/Counted.antt): their lengths and elements, a list that is filled in
-- place, what all of a list passes and what it holds. Assumes nothing.
use Rattle.std.specs.Prelude.{◌≡◌, refl, Bool, true, false, List, [], ◌∷◌, ◌++◌, ◌↔◌, ◌⊎◌, ℕ, zero, suc, ◌+◌, ◌<◌, ◌≤◌, eqb, length, get_or, set, if◌then◌else◌}
use Rattle.std.proofs.Common.{sym, ap, ◌∙◌, inl, inr, ⊎_elim, arith, eqb-true, length-set, ext_get_or, get_or-set_same, get_or-set_other}
use Rattle.std.proofs.lemmas.Bool.{false≢true, eqb-false}
use Rattle.std.proofs.Math.Decide.{ℕ_discrete}
use Rattle.std.proofs.Math.ListN.{get_or-append}
use Rattle.std.proofs.lemmas.List.{get_or_at}
use Rattle.terms.specs.Choose.{◌and◌, ◌or◌}
use Rattle.terms.specs.Counted.{every_from, list_from, list, gather_from, gather, holds, all}
use Rattle.terms.proofs.ChooseLaws.{and-if, or_passes}
use Rattle.terms.specs.CountedLaws.{Some}
use Rattle.terms.proofs.CountedLaws.{gather_last, last_or_below, list_last}

-- ---- lists

-- a list of n has n elements
pub length_list : {A : Type 0} (k n : ℕ) (f : ℕ → A) → length (list_from k n f) ≡ n
unfolding list_from
length_list k zero f = refl
length_list k (suc n) f = ap suc (length_list (suc k) n f)

-- element k of the list is f k
pub get_or-list : {A : Type 0} (n : ℕ) (f : ℕ → A) (k : ℕ) (d : A) → k < n → get_or (list n f) k d ≡ f k
get_or-list zero f k d lt = absurd (omega arith)
get_or-list (suc n) f k d lt =
    let len = length_list 0 n f in
    rw (list_last n f)
    (⊎_elim (λ q. rw q (get_or_at (list n f) (f n) [] d n len))
    (λ low. get_or-append (list n f) (f n ∷ []) d k (omega arith) ∙ get_or-list n f k d low)
    (last_or_below lt))

-- a list is the lists of one element each, gathered
list_gather : {A : Type 0} (k n : ℕ) (f : ℕ → A) → list_from k n f ≡ gather_from k n (λ i. f i ∷ [])
unfolding list_from gather_from
list_gather k zero f = refl
list_gather k (suc n) f = rw (list_gather (suc k) n f)

-- a list of n whose element k is f k, for each k
pub list_is : {A : Type 0} (n : ℕ) (f : ℕ → A) (d : A) (xs : List A) → length xs ≡ n → ((k : ℕ) → k < n → get_or xs k d ≡ f k) → xs ≡ list n f
list_is n f d xs len at =
    ext_get_or d xs (list n f) (len ∙ sym (length_list 0 n f)) (λ k lt. at k (omega arith) ∙ sym (get_or-list n f k d (omega arith)))

-- ---- a list that is filled in place

-- ys is xs with f 0, f 1, up to below i written over what stood there
pub record Filled {A : Type 0} (d : A) (f : ℕ → A) (xs : List A) (i : ℕ) (ys : List A) : Type 0 where
  pub size : length ys ≡ length xs
  pub below : (k : ℕ) → k < i → get_or ys k d ≡ f k
  pub above : (k : ℕ) → i ≤ k → get_or ys k d ≡ get_or xs k d

module _ {A : Type 0} {d : A} {f : ℕ → A} {xs : List A} where
  -- at the start nothing is written
  pub filled_none : Filled d f xs 0 xs
  filled_none = record { size = refl; below = λ k lt. absurd (omega arith); above = λ k le. refl }

  module _ {i : ℕ} {ys : List A} (filled : Filled d f xs i ys) where
    -- f i is written
    pub filled_set : (v : A) → i < length xs → v ≡ f i → Filled d f xs (i + 1) (set ys i v)
    filled_set v lt e = record {
      size = length-set ys i v ∙ filled.size;
      below = λ k low. elim (ℕ_discrete k i) [
        | yes q ↦ rw q (get_or-set_same ys i v d (omega (arith, filled.size)) ∙ e)
        | no ne ↦ get_or-set_other ys i k v d ne ∙ filled.below k (omega arith)
      ];
      above = λ k high. get_or-set_other ys i k v d (λ q. absurd (omega arith)) ∙ filled.above k (omega arith);
    }

    -- what stands there is f i already
    pub filled_keep : get_or xs i d ≡ f i → Filled d f xs (i + 1) ys
    filled_keep e = record {
      size = filled.size;
      below = λ k low. elim (ℕ_discrete k i) [ yes q ↦ rw q (filled.above i (omega arith) ∙ e) | no ne ↦ filled.below k (omega arith) ];
      above = λ k high. filled.above k (omega arith);
    }

    -- all is written
    pub filled_all : (n : ℕ) → length xs ≡ n → n ≤ i → ys ≡ list n f
    filled_all n len le = list_is n f d ys (filled.size ∙ len) (λ k lt. filled.below k (omega arith))

-- ---- all of a list

-- all of two lists, one behind the other, pass where all of each do
pub all_append : (test : ℕ → Bool) (xs ys : List ℕ) → all test (xs ++ ys) ≡ (all test xs and all test ys)
unfolding all
all_append test [] ys = refl
all_append test (x ∷ xs) ys = go (test x) (all_append test xs ys)
  where
    go : (b : Bool) → all test (xs ++ ys) ≡ (all test xs and all test ys)
        → (if b then all test (xs ++ ys) else false) ≡ ((if b then all test xs else false) and all test ys)
    go true rest = rest
    go false rest = refl

-- all of f k, f (k + 1) and so on, n of them, pass where every number does
pub all_list : (test : ℕ → Bool) (k n : ℕ) (f : ℕ → ℕ) → all test (list_from k n f) ≡ every_from k n (λ i. test (f i))
unfolding all list_from every_from
all_list test k zero f = refl
all_list test k (suc n) f = rw (all_list test (suc k) n f)

-- the same of lists gathered
pub all_gather : (test : ℕ → Bool) (k n : ℕ) (f : ℕ → List ℕ) → all test (gather_from k n f) ≡ every_from k n (λ i. all test (f i))
unfolding all gather_from every_from
all_gather test k zero f = refl
all_gather test k (suc n) f =
    all_append test (f k) (gather_from (suc k) n f)
    ∙ rw (all_gather test (suc k) n f) (and-if (all test (f k)) (every_from (suc k) n (λ i. all test (f i))))

-- ---- what a list holds

-- a list holds its first element and what the rest holds
pub holds_first : (y : ℕ) (ys : List ℕ) (x : ℕ) → (holds (y ∷ ys) x ≡ true) ↔ ((y ≡ x) ⊎ (holds ys x ≡ true))
unfolding holds
holds_first y ys x = go (eqb y x) refl
  where
    go : (b : Bool) → eqb y x ≡ b → ((if b then true else holds ys x) ≡ true) ↔ ((y ≡ x) ⊎ (holds ys x ≡ true))
    go true e = (λ h. inl (eqb-true y x e), λ p. refl)
    go false e = (inr, ⊎_elim (λ q. absurd (eqb-false y x e q)) (λ h. h))

-- two lists, one behind the other, hold what one of them holds: as tests
holds_append : (xs ys : List ℕ) (x : ℕ) → holds (xs ++ ys) x ≡ (holds xs x or holds ys x)
unfolding holds
holds_append [] ys x = refl
holds_append (y ∷ xs) ys x = go (eqb y x) (holds_append xs ys x)
  where
    go : (b : Bool) → holds (xs ++ ys) x ≡ (holds xs x or holds ys x)
        → (if b then true else holds (xs ++ ys) x) ≡ ((if b then true else holds xs x) or holds ys x)
    go true rest = refl
    go false rest = rest

-- and as facts
pub holds_either : (xs ys : List ℕ) (x : ℕ) → (holds (xs ++ ys) x ≡ true) ↔ ((holds xs x ≡ true) ⊎ (holds ys x ≡ true))
holds_either xs ys x =
    let either = or_passes (holds xs x) (holds ys x) in
    (λ e. either.0 (sym (holds_append xs ys x) ∙ e), λ w. holds_append xs ys x ∙ either.1 w)

-- lists gathered hold x exactly where one of them does
pub holds-gather : (n : ℕ) (f : ℕ → List ℕ) (x : ℕ) → (holds (gather n f) x ≡ true) ↔ Some n (λ k. holds (f k) x ≡ true)
unfolding gather_from holds
holds-gather zero f x = (λ e. absurd (false≢true e), λ p. absurd (omega arith))
holds-gather (suc n) f x =
    let before = holds-gather n f x in
    let either = holds_either (gather n f) (f n) x in
    rw (gather_last n f) (
      λ e. ⊎_elim (λ low. let p = before.0 low in (p.0, omega arith, p.2)) (λ at. (n, omega arith, at)) (either.0 e),
      λ p. either.1 (⊎_elim (λ q. inr (rw q at p.2)) (λ low. inl (before.1 (p.0, low, p.2))) (last_or_below p.1)),
    )

-- f 0, f 1, up to below n hold x exactly where one of them is x
pub holds-list : (n : ℕ) (f : ℕ → ℕ) (x : ℕ) → (holds (list n f) x ≡ true) ↔ Some n (λ k. f k ≡ x)
unfolding holds
holds-list n f x =
    let in_one = holds-gather n (λ k. f k ∷ []) x in
    let is_one : (k : ℕ) → (holds (f k ∷ []) x ≡ true) ↔ ((f k ≡ x) ⊎ (false ≡ true)) = λ k. holds_first (f k) [] x in
    rw (list_gather 0 n f) (
      λ e. let p = in_one.0 e in (p.0, p.1, ⊎_elim (λ q. q) (λ none. absurd (false≢true none)) ((is_one p.0).0 p.2)),
      λ p. in_one.1 (p.0, p.1, (is_one p.0).1 (inl p.2)),
    )
