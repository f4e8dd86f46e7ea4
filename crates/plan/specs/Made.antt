-- What stands in the definitions for what the functions hand back: a change, a plan, what COLLECT comes to, and refusals. Definitions only; assumes
-- nothing.
use Rattle.std.specs.Prelude.{◌≡◌, List, ℕ, Option, Some, None, Result, Ok, Err}
use Rattle.terms.specs.Choose.{answered}
use Rattle.terms.specs.Counted.{how_many, list}
use Rattle.terms.specs.Limits.{OBJECTS}
use Rattle.terms.specs.Numbers.{ACCEPTED}
use Rattle.terms.specs.Refusals.{number_of}
use Rattle.terms.specs.declared.Refusal.{Refusal}
use Rattle.step.specs.declared.Collection.{Collection}
use Rattle.step.specs.CollectParts.{reclaims, is_unused}
use Rattle.step.specs.Deed.{deed_of}
use Rattle.image.specs.declared.Found.{Found}
use Rattle.image.specs.declared.Held.{Held}
use Rattle.plan.specs.declared.Plan as code
use Rattle.plan.specs.declared.Replacement.{Replacement}
use Rattle.plan.specs.declared.Sweep as code_sweep
use Rattle.plan.specs.Change.{Change, Same, To, Plan, Sweep}
use Rattle.plan.specs.Plan.{refused_plan, object_spot, out_of_reach_in}
use Rattle.plan.specs.Sweep.{refused_sweep}

-- another record where this one was found
abbrev pub replacing : Found → ℕ → ℕ → Held → Replacement
replacing found a b held = record { at = found.at; after = found.after; a = a; b = b; held = held }

abbrev pub change_of : Option Replacement → Change
change_of None = Same
change_of (Some x) = To x.at x.after x.a x.b x.held

abbrev pub accepted_plan : code.Plan → Plan
accepted_plan plan = record {
  answer = ACCEPTED;
  deed = deed_of plan.deed;
  object = change_of plan.object;
  roots = change_of plan.roots;
  entry = change_of plan.entry;
  message = change_of plan.message;
}

abbrev pub plan_made : Result code.Plan Refusal → Plan
plan_made (Ok plan) = accepted_plan plan
plan_made (Err refusal) = refused_plan (number_of refusal)

abbrev pub accepted_sweep : code_sweep.Sweep → Sweep
accepted_sweep s = record { answer = ACCEPTED; reclaimed = s.reclaimed; gone = s.gone; unused = s.unused }

abbrev pub sweep_made : Result code_sweep.Sweep Refusal → Sweep
sweep_made (Ok s) = accepted_sweep s
sweep_made (Err refusal) = refused_sweep (number_of refusal)

-- the object whose fields are in p's reach as it was found, or the refusal that any plan meets there
abbrev pub Reaches : List ℕ → ℕ → ℕ → Result Found Refusal → Type 0
Reaches l p o (Ok found) = (found ≡ object_spot l o) × ((plan : Plan) → answered refused_plan (out_of_reach_in l p o) plan ≡ plan)
Reaches l p o (Err refusal) = (plan : Plan) → answered refused_plan (out_of_reach_in l p o) plan ≡ refused_plan (number_of refusal)

-- what a collection tells of each object
abbrev pub tested : Collection → Sweep
tested c = record {
  answer = ACCEPTED;
  reclaimed = how_many OBJECTS (reclaims c.heap c.node c.kept.seen);
  gone = list OBJECTS (reclaims c.heap c.node c.kept.seen);
  unused = list OBJECTS (is_unused c.node c.present.seen c.held.seen);
}
