-- What every accepted event keeps holds after every sequence of them; a formed table stays formed on the way. Assumes nothing.
use Rattle.std.specs.Prelude.{◌≡◌, List}
use Rattle.terms.specs.Numbers.{ACCEPTED}
use Rattle.table.specs.declared.Table.{Table}
use Rattle.table.specs.Formed.{Formed}
use Rattle.table.specs.Fresh.{fresh_formed}
use Rattle.table.specs.Table.{fresh_table}
use Rattle.step.specs.declared.Event.{Event}
use Rattle.step.specs.Step.{step}
use Rattle.laws.proofs.Events.KeepsShape.{keeps_form}
use Rattle.laws.specs.Sequence.{Accepted, Always}

-- every accepted event at a formed table keeps it
abbrev pub Keeps : (Table → Type 0) → Type 0
Keeps P = (t : Table) (e : Event) → Formed t → (step t e).answer ≡ ACCEPTED → P t → P (step t e).table

module _ {P : Table → Type 0} (keeps : Keeps P) where
  -- so every sequence does
  pub kept : {t u : Table} {es : List Event} → Formed t → Accepted t es u → P t → P u
  kept formed Accepted.stay holds = holds
  kept formed (Accepted.then {t} {e = e} accepted rest) holds = kept (keeps_form t e formed accepted) rest (keeps t e formed accepted holds)

-- what holds of the fresh table and is kept by every accepted event always holds
pub always : {P : Table → Type 0} → Keeps P → P fresh_table → Always P
always keeps fresh es t accepted = kept keeps fresh_formed accepted fresh
