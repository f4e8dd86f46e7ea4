-- What a choice tells: "and", "or", and one of two by a test (specs/Choose.antt). Assumes nothing.
use Rattle.std.specs.Prelude.{◌≡◌, refl, Bool, true, false, ◌↔◌, ◌⊎◌, if◌then◌else◌}
use Rattle.std.proofs.lemmas.Bool.{false≢true}
use Rattle.std.proofs.Common.{inl, inr, ⊎_elim}
use Rattle.terms.specs.Choose.{◌and◌, ◌or◌}

-- "and" passes exactly where both pass
pub and_passes : (a b : Bool) → ((a and b) ≡ true) ↔ ((a ≡ true) × (b ≡ true))
and_passes true b = (λ e. (refl, e), λ p. p.1)
and_passes false b = (λ e. absurd (false≢true e), λ p. p.0)

-- "or" passes exactly where one of the two does
pub or_passes : (a b : Bool) → ((a or b) ≡ true) ↔ ((a ≡ true) ⊎ (b ≡ true))
or_passes true b = (λ e. inl refl, λ p. refl)
or_passes false b = (inr, ⊎_elim (λ e. absurd (false≢true e)) (λ e. e))

-- "and" is a choice
pub and-if : (a b : Bool) → (a and b) ≡ (if a then b else false)
and-if true b = refl
and-if false b = refl

-- what holds of both branches holds of the choice
pub either_way : {A : Type 0} (P : A → Type 0) (test : Bool) {x y : A} → (test ≡ true → P x) → P y → P (if test then x else y)
either_way P true first second = first refl
either_way P false first second = second
