-- NEW P r: the lowest object of P that isn't live becomes live, fields empty, and the empty root r names it. Definitions only; assumes nothing.
use Rattle.std.specs.Prelude.{not, [], ◌∷◌, ℕ, ◌+◌, ◌*◌, ltb}
use Rattle.terms.specs.Choose.{◌when◌}
use Rattle.terms.specs.Limits.{OWNED}
use Rattle.terms.specs.Numbers.{ROOT, NOROOM, TORN}
use Rattle.entry.specs.Entry.{is_absent}
use Rattle.heap.specs.Heap.{born, root_at, is_none, free_own, with_object, with_root}
use Rattle.table.specs.declared.Table.{Table}
use Rattle.table.specs.Table.{entry_at, with_heap}
use Rattle.step.specs.Deed.{Born}
use Rattle.step.specs.Outcome.{Rule, did}

-- the object that NEW takes at node p
abbrev pub chosen : Table → ℕ → ℕ
chosen t p = OWNED * p + free_own t.heap p

-- object o becomes live and root r of p names it
abbrev pub with_new : Table → ℕ → ℕ → ℕ → Table
with_new t p r o = with_heap t (with_root (with_object t.heap o born) p r o)

unfoldable pub new : Table → ℕ → ℕ → Rule
new t p r = record {
  refusals =
      (ROOT when not (is_none (root_at t.heap p r)))
      ∷ (NOROOM when not (ltb (free_own t.heap p) OWNED))
      ∷ (TORN when not (is_absent (entry_at t p (chosen t p))))
      ∷ [];
  effect = did (Born (chosen t p)) (with_new t p r (chosen t p));
}
