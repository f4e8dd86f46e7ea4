-- How a definition chooses: by a test, and by a list of refusals that are tried in order. Definitions only; assumes nothing.
use Rattle.std.specs.Prelude.{Bool, true, false, List, [], ◌∷◌, ℕ, if◌then◌else◌}

infix 2 ◌when◌
infixr 3 ◌or◌
infixr 4 ◌and◌
-- both tests pass; the second is asked only after the first
abbrev pub ◌and◌ : Bool → Bool → Bool
true and b = b
false and b = false

-- one of the tests passes
abbrev pub ◌or◌ : Bool → Bool → Bool
true or b = true
false or b = b

-- a refusal: its number, and whether it applies
pub record Refusal : Type 0 where
  pub number : ℕ
  pub applies : Bool

abbrev pub ◌when◌ : ℕ → Bool → Refusal
n when b = record { number = n; applies = b }

-- the first refusal of the list that applies gives the answer; where none applies, the effect stands
abbrev pub answered : {A : Type 0} → (ℕ → A) → List Refusal → A → A
answered refused [] effect = effect
answered refused (r ∷ rs) effect = if r.applies then refused r.number else answered refused rs effect
