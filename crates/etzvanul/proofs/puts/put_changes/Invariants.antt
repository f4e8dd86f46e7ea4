-- The invariant: the changes from k on and then the others are left, and change k may be looked for.
use Rattle.std.proofs.Common.{ℕ, List, ◌++◌, ◌-◌}
use Rattle.terms.specs.Counted.{list_from}
use Rattle.splice.specs.Onward.{From}
use Rattle.plan.specs.Change.{Change}
use Rattle.etzvanul.specs.Going.{Going}
use Rattle.etzvanul.specs.InTurn.{Puts}
use Rattle.etzvanul.proofs.puts.put_changes.Given as goal

abbrev pub invariant-loop-k : goal.invariant-loop-k
invariant-loop-k g l =
    (f : ℕ → Change) (place : ℕ → ℕ) (whole : List ℕ) (rest : List Change)
    → Puts l.l l.n (goal.F-pre g l.change) (goal.F-post g l.change) f place whole rest l.fn.c l.fn.out
    → Going whole l.l (list_from l.k (l.n - l.k) f ++ rest) l.next.from l.next.to l.out × From l.l l.next.from (place l.k)
