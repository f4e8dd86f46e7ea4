-- Sequences of accepted events, and what holds after every one of them (document 01, "Laws over all accepted sequences from the fresh
-- state"). Definitions only; assumes nothing.
use Rattle.std.specs.Prelude.{◌≡◌, Bool, List, [], ◌∷◌, ℕ, ◌+◌}
use Rattle.terms.specs.Counted.{one}
use Rattle.terms.specs.Numbers.{ACCEPTED}
use Rattle.table.specs.declared.Table.{Table}
use Rattle.table.specs.Table.{fresh_table}
use Rattle.step.specs.declared.Event.{Event}
use Rattle.step.specs.Step.{step}

-- every event of the list is accepted, one after the other, and they lead from the first table to the second
pub data Accepted : Table → List Event → Table → Type 0 where
  stay : {t : Table} → Accepted t [] t
  then : {t u : Table} {e : Event} {es : List Event} → (step t e).answer ≡ ACCEPTED → Accepted (step t e).table es u → Accepted t (e ∷ es) u

-- it holds of every table that accepted events make of the fresh one
abbrev pub Always : (Table → Type 0) → Type 0
Always P = (es : List Event) (t : Table) → Accepted fresh_table es t → P t

-- how many events of a list pass a test, each asked at the table that it meets
unfoldable pub along : (Table → Event → Bool) → Table → List Event → ℕ
along test t [] = 0
along test t (e ∷ es) = one (test t e) + along test (step t e).table es
