-- The invariant: the cells below `o` are as they are to be, all else is as it was.
use Rattle.std.proofs.Common.{◌≡◌, [], length}
use Rattle.terms.specs.Limits.{OBJECTS}
use Rattle.terms.proofs.ListLaws.{Filled}
use Rattle.table.specs.Table.{cell_at, with_cells}
use Rattle.step.specs.Collect.{cell_collected, held_at, kept}
use Rattle.step.proofs.collect.collect.Given as goal

abbrev pub invariant-loop-o : goal.invariant-loop-o
invariant-loop-o l =
    Filled
    (record { at = [] })
    (λ k. cell_collected l.fn.t l.p (kept l.fn.t l.p) (held_at l.fn.t l.p (kept l.fn.t l.p)) k (cell_at l.fn.t k))
    l.fn.t.cells
    l.o
    l.t.cells
    × (with_cells l.t l.fn.t.cells ≡ l.fn.t)
    × (length l.t.cells ≡ OBJECTS)
