-- The changes of a plan one by one. Assumes nothing.
use Rattle.std.specs.Prelude.{◌≡◌, refl, List, [], ◌∷◌, ℕ, zero, suc, ◌+◌, ◌<◌, Option, get_or, drop, length, map}
use Rattle.std.proofs.Common.{arith, add-one}
use Rattle.plan.specs.declared.Plan.{Plan}
use Rattle.plan.specs.declared.Replacement.{Replacement}
use Rattle.plan.specs.Made.{accepted_plan, change_of}
use Rattle.etzvanul.specs.Orderly.{others}

next_of : (xs : List (Option Replacement)) (i : ℕ) (d : Option Replacement) → i < length xs
    → drop i (map change_of xs) ≡ change_of (get_or xs i d) ∷ drop (suc i) (map change_of xs)
next_of [] i d lt = absurd (omega arith)
next_of (x ∷ xs) zero d lt = refl
next_of (x ∷ xs) (suc i) d lt = next_of xs i d (omega arith)

-- change i is the first of those left
pub plan_next : (p : Plan) (xs : List (Option Replacement)) → xs ≡ p.object ∷ p.roots ∷ p.entry ∷ p.message ∷ []
    → (i : ℕ) (d : Option Replacement) → i < 4
    → drop i (others (accepted_plan p)) ≡ change_of (get_or xs i d) ∷ drop (i + 1) (others (accepted_plan p))
plan_next p xs is i d lt = rw (is, add-one) (next_of (p.object ∷ p.roots ∷ p.entry ∷ p.message ∷ []) i d lt)
