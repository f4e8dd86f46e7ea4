-- Records in the order of their positions (document 01, "Order"): those before a position, those from it on, and what stands at it. Assumes nothing.
use Rattle.std.specs.Prelude.{◌≡◌, Bool, true, false, ℕ, suc, ◌≤◌, ◌<◌, ltb, length, if◌then◌else◌}
use Rattle.std.proofs.Math.Path.{refl}
use Rattle.std.proofs.Common.{sym, ap, subst, ◌∙◌, arith, ltb-true, lt-ltb, le-ltb}
use mathlib.Core.List.{List, [], ◌∷◌, ◌++◌, append-nil}
use Rattle.image.specs.Records.{Record}
use Rattle.splice.specs.Parts.{place_of, before, from, found}

-- ---- the parts are the whole

pub before-from : (n : ℕ) (rs : List Record) → before n rs ++ from n rs ≡ rs
unfolding before from
before-from n [] = refl
before-from n (r ∷ rs) = go (ltb (place_of r) n) (before-from n rs)
  where
    go : (b : Bool) → before n rs ++ from n rs ≡ rs → (if b then r ∷ before n rs else []) ++ (if b then from n rs else r ∷ rs) ≡ r ∷ rs
    go true rest = ap (λ (l : List Record). r ∷ l) rest
    go false rest = refl

-- from a position and then from a later one is from the later one
pub from-from : (n m : ℕ) → n ≤ m → (rs : List Record) → from m (from n rs) ≡ from m rs
unfolding from
from-from n m le [] = refl
from-from n m le (r ∷ rs) = go (ltb (place_of r) n) refl (from-from n m le rs)
  where
    go : (b : Bool) → ltb (place_of r) n ≡ b → from m (from n rs) ≡ from m rs → from m (if b then from n rs else r ∷ rs) ≡ from m (r ∷ rs)
    go true e rest = rest ∙ sym (rw (lt-ltb (place_of r) m (omega (arith, ltb-true (place_of r) n e))) refl)
    go false e rest = refl

-- before a later position are those before an earlier one, and then more
pub before-before : (n m : ℕ) → n ≤ m → (rs : List Record) → before m rs ≡ before n rs ++ before m (from n rs)
unfolding before from
before-before n m le [] = refl
before-before n m le (r ∷ rs) = go (ltb (place_of r) n) refl (before-before n m le rs)
  where
    go : (b : Bool) → ltb (place_of r) n ≡ b → before m rs ≡ before n rs ++ before m (from n rs)
        → before m (r ∷ rs) ≡ (if b then r ∷ before n rs else []) ++ before m (if b then from n rs else r ∷ rs)
    go true e rest = rw (lt-ltb (place_of r) m (omega (arith, ltb-true (place_of r) n e))) (ap (λ (l : List Record). r ∷ l) rest)
    go false e rest = refl

-- from position 0 on are all
pub from_zero : (rs : List Record) → from 0 rs ≡ rs
unfolding from
from_zero [] = refl
from_zero (r ∷ rs) = rw (le-ltb (place_of r) 0 (omega arith))

-- before a position, at it, and after it
pub three_parts : (n : ℕ) (rs : List Record) → before n rs ++ (found n rs ++ from (suc n) rs) ≡ rs
three_parts n rs =
    ap (λ (l : List Record). before n rs ++ (found n rs ++ l)) (sym (from-from n (suc n) (omega arith) rs))
    ∙ ap (λ (l : List Record). before n rs ++ l) (before-from (suc n) (from n rs))
    ∙ before-from n rs

-- ---- where records stand

-- each record has a position of which P holds
abbrev pub Places : (ℕ → Type 0) → List Record → Type 0
Places P [] = Unit
Places P (r ∷ rs) = P (place_of r) × Places P rs

pub places_append : (P : ℕ → Type 0) (rs more : List Record) → Places P rs → Places P more → Places P (rs ++ more)
places_append P [] more one two = two
places_append P (r ∷ rs) more one two = (one.0, places_append P rs more one.1 two)

pub places_as : (P Q : ℕ → Type 0) → ((n : ℕ) → P n → Q n) → (rs : List Record) → Places P rs → Places Q rs
places_as P Q as' [] all = tt
places_as P Q as' (r ∷ rs) all = (as' (place_of r) all.0, places_as P Q as' rs all.1)

module _ (n : ℕ) where
  -- records that all stand before n are passed
  pub before_passed : (rs more : List Record) → Places (λ q. q < n) rs → before n (rs ++ more) ≡ rs ++ before n more
  unfolding before
  before_passed [] more all = refl
  before_passed (r ∷ rs) more all = rw (lt-ltb (place_of r) n all.0, before_passed rs more all.1)

  pub from_passed : (rs more : List Record) → Places (λ q. q < n) rs → from n (rs ++ more) ≡ from n more
  unfolding from
  from_passed [] more all = refl
  from_passed (r ∷ rs) more all = rw (lt-ltb (place_of r) n all.0) (from_passed rs more all.1)

  -- of records that all stand from n on none is passed
  pub before_none : (rs : List Record) → Places (λ q. n ≤ q) rs → before n rs ≡ []
  unfolding before
  before_none [] all = refl
  before_none (r ∷ rs) all = rw (le-ltb (place_of r) n all.0)

  pub from_all : (rs : List Record) → Places (λ q. n ≤ q) rs → from n rs ≡ rs
  unfolding from
  from_all [] all = refl
  from_all (r ∷ rs) all = rw (le-ltb (place_of r) n all.0)

-- ---- a position, and the records that stand before and after it

module _ (n : ℕ) where
  -- records before it are passed
  pub found_passed : (rs more : List Record) → Places (λ q. q < n) rs → found n (rs ++ more) ≡ found n more
  found_passed rs more all = ap (before (suc n)) (from_passed n rs more all)

  module _ (rs more : List Record) (here : Places (λ q. q ≡ n) rs) (after : Places (λ q. suc n ≤ q) more) where
    both : Places (λ q. n ≤ q) (rs ++ more)
    both = places_append (λ q. n ≤ q) rs more (places_as (λ q. q ≡ n) (λ q. n ≤ q) (λ q e. omega arith) rs here)
        (places_as (λ q. suc n ≤ q) (λ q. n ≤ q) (λ q le. omega arith) more after)

    here_later : Places (λ q. q < suc n) rs
    here_later = places_as (λ q. q ≡ n) (λ q. q < suc n) (λ q e. omega arith) rs here

    -- the records at it are what stands there
    pub found_here : found n (rs ++ more) ≡ rs
    found_here =
        ap (before (suc n)) (from_all n (rs ++ more) both)
        ∙ before_passed (suc n) rs more here_later
        ∙ ap (λ (l : List Record). rs ++ l) (before_none (suc n) more after)
        ∙ append-nil rs

-- ---- rising records

-- each record stands behind the one before it, the first from position n on
abbrev pub Rising : ℕ → List Record → Type 0
Rising n [] = Unit
Rising n (r ∷ rs) = (n ≤ place_of r) × Rising (suc (place_of r)) rs

pub rising_lower : (n m : ℕ) → n ≤ m → (rs : List Record) → Rising m rs → Rising n rs
rising_lower n m le [] up = tt
rising_lower n m le (r ∷ rs) up = (omega (arith, up.0), up.1)

-- one record at most at a position, and rising ones behind it
pub rising_append : (n : ℕ) (rs more : List Record) → Places (λ q. q ≡ n) rs → length rs ≤ 1 → Rising (suc n) more → Rising n (rs ++ more)
rising_append n [] more here one up = rising_lower n (suc n) (omega arith) more up
rising_append n (r ∷ []) more here one up = (omega (arith, here.0), subst (λ (q : ℕ). Rising (suc q) more) (sym here.0) up)
rising_append n (r ∷ x ∷ rs) more here one up = absurd (omega arith)
