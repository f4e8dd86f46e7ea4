-- Edges that document 01 states beside its run, proved by computation. Assumes nothing.
use Rattle.std.specs.Prelude.{◌≡◌, refl, List, [], ◌∷◌, take}
use Rattle.terms.specs.Numbers.{BUSY}
use Rattle.table.specs.declared.Table.{Table}
use Rattle.table.specs.Table.{fresh_table}
use Rattle.step.specs.declared.Event.{Event}
use Rattle.step.specs.Event.{event, DROP}
use Rattle.step.specs.Step.{step}
use Rattle.cases.specs.Rules.{rules}
use Rattle.cases.specs.Twelve.{twelve}

-- the table after some events, refused ones changing nothing
unfoldable pub after_all : Table → List Event → Table
after_all t [] = t
after_all t (e ∷ es) = after_all (step t e).table es

-- DROP before 7: BUSY
pub drop_before_collect : (step (after_all fresh_table (take 6 twelve)) (event DROP 3 0 0 0)).answer ≡ BUSY
unfolding rules after_all
drop_before_collect = refl
