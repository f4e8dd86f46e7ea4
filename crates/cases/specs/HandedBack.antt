-- What the code hands back stands for a mathematical value: `told`, `outcome_of` and the like say for which. Each of these that a public promise
-- uses is one-to-one: where the value is the same, so is what is handed back. So the promise determines the code's own result as well, which
-- specs/Determined.antt says call by call. Assumes nothing.
use Rattle.std.specs.Prelude.{◌≡◌, refl, ℕ, ◌<◌, ⊤, Option, Some, None, Result, Ok, Err, IfOk, IfSome, unwrap_or}
use Rattle.std.proofs.Common.{sym, ap, ap₂, subst, ◌∙◌}
use Rattle.std.proofs.Props.{props}
use Rattle.terms.specs.Limits.{NODES}
use Rattle.terms.specs.Numbers.{ACCEPTED}
use Rattle.terms.specs.Refusals.{number_of, refusal_number, answer_of}
use Rattle.terms.specs.declared.Refusal.{Refusal}
use Rattle.entry.specs.Acts.{Acted, told}
use Rattle.table.specs.declared.Table.{Table}
use Rattle.table.specs.Depth.{depth_of}
use Rattle.table.specs.DepthLaws as depths
use Rattle.table.specs.TableLaws.{below_one}
use Rattle.step.specs.declared.Deed as code
use Rattle.step.specs.declared.Deed.TheVariants as c
use Rattle.step.specs.Deed as d
use Rattle.step.specs.Deed.{Deed, deed_of}
use Rattle.step.specs.Outcome.{Outcome, outcome_of}
use Rattle.image.specs.Reader.{loaded_of}
use Rattle.image.specs.Writer.{written_of}
use Rattle.image.proofs.HandedBack.{answer_of_injective, loaded_of_injective, written_of_injective}
use Rattle.run.specs.Ran.{Ran, ran_of}
use Rattle.scenario.specs.Records as scenario
use Rattle.scenario.specs.RecordLaws.{answer_of_only}
use Rattle.plan.specs.declared.Plan as code_plan
use Rattle.plan.specs.declared.Replacement.{Replacement}
use Rattle.plan.specs.declared.Sweep as code_sweep
use Rattle.plan.specs.Change.{Change, Same, To, Plan, Sweep}
use Rattle.plan.specs.Made.{accepted_plan, accepted_sweep, change_of, plan_made, sweep_made}

-- ---- what is meant

-- where the value is the same, so is what was handed back
abbrev pub OneToOne : {R M : Type 0} → (R → M) → Type 0
OneToOne {R} f = (x y : R) → f x ≡ f y → x ≡ y

-- what has a way back is one-to-one
pub by_way_back : {R M : Type 0} (f : R → M) (back : M → R) → ((x : R) → back (f x) ≡ x) → OneToOne f
by_way_back f back there x y e = sym (there x) ∙ ap back e ∙ there y

-- ---- refusals

-- `number_of`
pub number_of_one : OneToOne number_of
number_of_one r s e = let same : ◌≡◌ {A = Result ⊤ Refusal} (Err r) (Err s) = answer_of_injective (Err r) (Err s) e in cc

-- no refusal has the number of what is accepted
pub apart : (r : Refusal) → ACCEPTED ≡ number_of r → ⊥
apart r e = let same : ◌≡◌ {A = Result ⊤ Refusal} (Ok tt) (Err r) = answer_of_injective (Ok tt) (Err r) e in cc

-- `refusal_number`
pub refusal_number_one : OneToOne refusal_number
refusal_number_one None None e = refl
refusal_number_one None (Some s) e = absurd (apart s e)
refusal_number_one (Some r) None e = absurd (apart r (sym e))
refusal_number_one (Some r) (Some s) e = ap Some (number_of_one r s e)

-- `answer_of`, where what is handed back has one value
pub answer_of_one : OneToOne (answer_of {A = ⊤})
answer_of_one = answer_of_injective

-- ---- an act

-- `told`
pub told_one : {E : Type 0} → OneToOne (told {E = E})
told_one {E} x y e =
    ap₂ (λ (r : Option Refusal) (entry : E). record { refusal = r; entry = entry })
    (refusal_number_one x.refusal y.refusal (ap (λ (a : Acted E). a.refusal) e))
    (ap (λ (a : Acted E). a.entry) e)

-- ---- numbers that may be none

-- `unwrap_or`, with a bound that no number reaches: the lowest free object and the lowest empty place
pub unwrap_or_one : (n : ℕ) (a b : Option ℕ) → IfSome a (λ k. k < n) → IfSome b (λ k. k < n) → unwrap_or a n ≡ unwrap_or b n → a ≡ b
unwrap_or_one = below_one

-- `depth_of`
pub depth_of_one : OneToOne depth_of
depth_of_one = depths.depth_of_one

-- ---- one event

-- the way back; the code has no deed for `Refused`, so any serves
deed_back : Deed → code.Deed
deed_back d.Refused = c.Arranged
deed_back d.Arranged = c.Arranged
deed_back (d.Born object) = c.Born object
deed_back (d.Sent place) = c.Sent place
deed_back d.CameHome = c.CameHome
deed_back d.Made = c.Made
deed_back d.Merged = c.Merged
deed_back (d.Answered place) = c.Answered place
deed_back d.Settled = c.Settled
deed_back (d.Collected objects) = c.Collected objects
deed_back (d.Dropped place) = c.Dropped place
deed_back d.Cleared = c.Cleared

deed_there : (x : code.Deed) → deed_back (deed_of x) ≡ x
unfolding deed_back
deed_there c.Arranged = refl
deed_there (c.Born object) = refl
deed_there (c.Sent place) = refl
deed_there c.CameHome = refl
deed_there c.Made = refl
deed_there c.Merged = refl
deed_there (c.Answered place) = refl
deed_there c.Settled = refl
deed_there (c.Collected objects) = refl
deed_there (c.Dropped place) = refl
deed_there c.Cleared = refl

-- `deed_of`
pub deed_of_one : OneToOne deed_of
deed_of_one = by_way_back deed_of deed_back deed_there

-- `outcome_of`, of the result and the table that is left
pub outcome_of_one : (x y : Result code.Deed Refusal) (t u : Table) → outcome_of x t ≡ outcome_of y u → (x ≡ y) × (t ≡ u)
outcome_of_one (Ok a) (Ok b) t u e = (ap Ok (deed_of_one a b (ap (λ (o : Outcome). o.deed) e)), ap (λ (o : Outcome). o.table) e)
outcome_of_one (Ok a) (Err s) t u e = absurd (apart s (ap (λ (o : Outcome). o.answer) e))
outcome_of_one (Err r) (Ok b) t u e = absurd (apart r (sym (ap (λ (o : Outcome). o.answer) e)))
outcome_of_one (Err r) (Err s) t u e = (ap Err (number_of_one r s (ap (λ (o : Outcome). o.answer) e)), ap (λ (o : Outcome). o.table) e)

-- ---- the saved image

-- `loaded_of`
pub loaded_of_one : OneToOne loaded_of
loaded_of_one = loaded_of_injective

-- `written_of`
pub written_of_one : OneToOne written_of
written_of_one = written_of_injective

-- ---- a run and a scenario

-- `ran_of`
pub ran_of_one : OneToOne ran_of
ran_of_one (Ok a) (Ok b) e = ap (λ (w : Ran). Ok (record { length = w.length; summary = w.summary })) e
ran_of_one (Ok a) (Err s) e = absurd (apart s (ap (λ (w : Ran). w.answer) e))
ran_of_one (Err r) (Ok b) e = absurd (apart r (sym (ap (λ (w : Ran). w.answer) e)))
ran_of_one (Err r) (Err s) e = ap Err (number_of_one r s (ap (λ (w : Ran). w.answer) e))

-- `answer_of` of a scenario
pub scenario_one : OneToOne scenario.answer_of
scenario_one = answer_of_only

-- ---- a plan and a sweep

change_back : Change → Option Replacement
change_back Same = None
change_back (To at after a b held) = Some (record { at = at; after = after; a = a; b = b; held = held })

change_there : (x : Option Replacement) → change_back (change_of x) ≡ x
unfolding change_back
change_there None = refl
change_there (Some x) = refl

-- `change_of`
pub change_of_one : OneToOne change_of
change_of_one = by_way_back change_of change_back change_there

plan_back : Plan → code_plan.Plan
plan_back p = record { deed = deed_back p.deed; object = change_back p.object; roots = change_back p.roots; entry = change_back p.entry; message = change_back p.message }

-- `accepted_plan`
pub accepted_plan_one : OneToOne accepted_plan
unfolding plan_back
accepted_plan_one = by_way_back accepted_plan plan_back (λ x. simp (deed_there, change_there))

-- `plan_made`
pub plan_made_one : OneToOne plan_made
plan_made_one (Ok a) (Ok b) e = ap Ok (accepted_plan_one a b e)
plan_made_one (Ok a) (Err s) e = absurd (apart s (ap (λ (p : Plan). p.answer) e))
plan_made_one (Err r) (Ok b) e = absurd (apart r (sym (ap (λ (p : Plan). p.answer) e)))
plan_made_one (Err r) (Err s) e = ap Err (number_of_one r s (ap (λ (p : Plan). p.answer) e))

sweep_with : (n : ℕ) → Sweep → n < NODES → code_sweep.Sweep
sweep_with n w node = record { node = n; reclaimed = w.reclaimed; gone = w.gone; unused = w.unused; is_node = node }

at_one_node : (n m : ℕ) (w : Sweep) (p : n < NODES) (q : m < NODES) → n ≡ m → sweep_with n w p ≡ sweep_with m w q
at_one_node n m w p q e =
    let one : (a b : n < NODES) → a ≡ b = hlevel props in
    subst (λ (k : ℕ). (r : k < NODES) → sweep_with n w p ≡ sweep_with k w r) e (λ r. ap (sweep_with n w) (one p r)) q

same_sweep : (a b : code_sweep.Sweep) → a.node ≡ b.node → accepted_sweep a ≡ accepted_sweep b → a ≡ b
unfolding sweep_with
same_sweep a b n e =
    at_one_node a.node b.node (accepted_sweep a) a.is_node b.is_node n ∙ ap (λ (w : Sweep). sweep_with b.node w b.is_node) e

-- `sweep_made`, of sweeps at one node
pub sweep_made_one : (p : ℕ) (x y : Result code_sweep.Sweep Refusal)
    → IfOk x (λ s. s.node ≡ p) → IfOk y (λ s. s.node ≡ p) → sweep_made x ≡ sweep_made y → x ≡ y
sweep_made_one p (Ok a) (Ok b) m n e = ap Ok (same_sweep a b (m ∙ sym n) e)
sweep_made_one p (Ok a) (Err s) m n e = absurd (apart s (ap (λ (w : Sweep). w.answer) e))
sweep_made_one p (Err r) (Ok b) m n e = absurd (apart r (sym (ap (λ (w : Sweep). w.answer) e)))
sweep_made_one p (Err r) (Err s) m n e = ap Err (number_of_one r s (ap (λ (w : Sweep). w.answer) e))
