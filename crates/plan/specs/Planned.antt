-- What a plan has to be: the answer and the deed are those of the event on the table, and its changes make the table's image of the old one.
-- Definitions, and the law by which plan and rule are compared refusal by refusal. Assumes nothing.
use Rattle.std.specs.Prelude.{◌≡◌, refl, Bool, true, false, List, [], ◌∷◌, ℕ, suc, ◌+◌, if◌then◌else◌}
use Rattle.terms.specs.Choose.{Refusal, answered}
use Rattle.terms.specs.Numbers.{ACCEPTED}
use Rattle.image.specs.declared.Held.{Held}
use Rattle.image.specs.Find.{offset, held_records}
use Rattle.image.specs.Records.{Record}
use Rattle.image.specs.Spots.{Spot, spot_position}
use Rattle.splice.specs.Patched.{Differs}
use Rattle.splice.specs.Patched as patched
use Rattle.splice.specs.Spread.{Within}
use Rattle.step.specs.Outcome.{Outcome, refused}
use Rattle.table.specs.declared.Table.{Table}
use Rattle.table.specs.Table.{with_count}
use Rattle.plan.specs.Change.{Change, Same, To, Plan}
use Rattle.plan.specs.Plan.{refused_plan, changes_of}

-- changes of bytes that are these changes of records: each from where its spot begins in the image to where the next one does
pub data Matches (l : List ℕ) : List Change → List patched.Change → Type 0 where
  none : Matches l [] []
  same : {cs : List Change} {ps : List patched.Change} → Matches l cs ps → Matches l (Same ∷ cs) ps
  made : (s : Spot) {at after a b : ℕ} {held : Held} {rs : List Record} {cs : List Change} {ps : List patched.Change}
      → Within s → at ≡ offset (spot_position s) l → after ≡ offset (suc (spot_position s)) l → rs ≡ held_records a b held
      → Matches l cs ps → Matches l (To at after a b held ∷ cs) (patched.change s rs ∷ ps)

-- the plan is right for what the event comes to on the table, its count not yet taken
pub record Planned (l : List ℕ) (t : Table) (o : Outcome) (plan : Plan) : Type 0 where
  pub answer : plan.answer ≡ o.answer
  pub deed : plan.deed ≡ o.deed
  pub changed : plan.answer ≡ ACCEPTED
      → (ps : List patched.Change) × (Matches l (changes_of (t.count + 1) plan) ps × Differs ps t (with_count o.table (t.count + 1)))

-- ---- refusal by refusal

-- no refusal applies
abbrev pub Pass : List Refusal → Type 0
Pass [] = Unit
Pass (r ∷ rs) = (r.applies ≡ false) × Pass rs

-- each has a number of its own, which is not that of acceptance
abbrev pub Numbered : List Refusal → Type 0
Numbered [] = Unit
Numbered (r ∷ rs) = (r.number ≡ ACCEPTED → ⊥) × Numbered rs

module _ (l : List ℕ) (t : Table) where
  pub planned_refused : (number : ℕ) → (number ≡ ACCEPTED → ⊥) → Planned l t (refused t number) (refused_plan number)
  planned_refused number other = record { answer = refl; deed = refl; changed = λ is. absurd (other is) }

  -- with the same refusals, plan and rule are compared where none of them applies
  pub planned_by : (rs : List Refusal) (effect : Outcome) (plan : Plan) → Numbered rs → (Pass rs → Planned l t effect plan)
      → Planned l t (answered (refused t) rs effect) (answered refused_plan rs plan)
  planned_by [] effect plan numbers passed = passed tt
  planned_by (r ∷ rs) effect plan numbers passed =
      go r.applies refl (λ is. planned_by rs effect plan numbers.1 (λ rest. passed (is, rest)))
    where
      go : (b : Bool) → r.applies ≡ b → (r.applies ≡ false → Planned l t (answered (refused t) rs effect) (answered refused_plan rs plan))
          → Planned l t (if b then refused t r.number else answered (refused t) rs effect)
          (if b then refused_plan r.number else answered refused_plan rs plan)
      go true is rest = planned_refused r.number numbers.0
      go false is rest = rest is
