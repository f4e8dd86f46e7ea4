-- One step for every table and every event (document 01, "Numbers given for a refused event"): the refusals that any event may meet,
-- then those of its kind, in the order in which they are tried, then its effect, which is counted. Definitions only; assumes nothing.
use Rattle.std.specs.Prelude.{not, List, [], ◌∷◌, ◌++◌, ℕ, ◌+◌, ltb, if◌then◌else◌}
use Rattle.terms.specs.Choose.{Refusal, ◌when◌, answered}
use Rattle.terms.specs.Limits.{EVENTS}
use Rattle.terms.specs.Numbers.{SHAPE, EVENT, ENDED}
use Rattle.table.specs.declared.Table.{Table}
use Rattle.table.specs.Shape.{fits_table}
use Rattle.table.specs.Table.{with_count}
use Rattle.step.specs.declared.Event.{Event}
use Rattle.step.specs.declared.Kind.{Kind}
use Rattle.step.specs.declared.Kind.TheVariants.{New, Move, Clear, Load, Store, Send, Receive, Settle, Collect, Drop, Unknown}
use Rattle.step.specs.Outcome.{Outcome}
use Rattle.step.specs.Event.{kind_of, fits_event}
use Rattle.step.specs.Outcome.{Rule, by, is_accepted, refused}
use Rattle.step.specs.New.{new}
use Rattle.step.specs.Move.{move}
use Rattle.step.specs.Clear.{clear}
use Rattle.step.specs.Load.{load}
use Rattle.step.specs.Store.{store}
use Rattle.step.specs.Send.{send}
use Rattle.step.specs.Receive.{receive}
use Rattle.step.specs.Settle.{settle}
use Rattle.step.specs.Collect.{collect}
use Rattle.step.specs.Drop.{drop}

-- the rule of each kind, its operands in the order of document 01's table; an unknown kind is refused before
unfoldable pub rule_for : Kind → Table → Event → Rule
rule_for New t e = new t e.a e.b
rule_for Move t e = move t e.a e.b e.c
rule_for Clear t e = clear t e.a e.b
rule_for Load t e = load t e.a e.b e.c e.d
rule_for Store t e = store t e.a e.b e.c e.d
rule_for Send t e = send t e.a e.b e.c
rule_for Receive t e = receive t e.a e.b
rule_for Settle t e = settle t e.a
rule_for Collect t e = collect t e.a
rule_for Drop t e = drop t e.a e.b
rule_for Unknown t e = record { refusals = []; effect = refused t EVENT }

abbrev pub rule_of : Table → Event → Rule
rule_of t e = rule_for (kind_of e.kind) t e

-- what any event may be refused for
abbrev pub common : Table → Event → List Refusal
common t e = (SHAPE when not (fits_table t)) ∷ (EVENT when not (fits_event e)) ∷ (ENDED when not (ltb t.count EVENTS)) ∷ []

-- all that this event at this table may be refused for, in the order in which it is tried
abbrev pub refusals_of : Table → Event → List Refusal
refusals_of t e = common t e ++ (rule_of t e).refusals

-- an accepted event adds 1 to the count of n events
abbrev pub one_more : ℕ → Outcome → Outcome
one_more n o = if is_accepted o then record { answer = o.answer; deed = o.deed; table = with_count o.table (n + 1) } else o

-- the first refusal that applies, or the effect
unfoldable pub step : Table → Event → Outcome
step t e = answered (refused t) (common t e) (one_more t.count (by t (rule_of t e)))
