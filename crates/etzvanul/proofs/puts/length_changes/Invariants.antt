-- The invariant: the changes from k on and then the others are left of the length, and change k may be looked for.
use Rattle.std.proofs.Common.{ℕ, List, ◌++◌, ◌+◌, ◌-◌, ◌*◌}
use Rattle.terms.specs.Counted.{list_from}
use Rattle.splice.specs.Onward.{From}
use Rattle.plan.specs.Change.{Change}
use Rattle.etzvanul.specs.Going.{Measured}
use Rattle.etzvanul.specs.InTurn.{Measures}
use Rattle.etzvanul.proofs.puts.length_changes.Given as goal

abbrev pub invariant-loop-k : goal.invariant-loop-k
invariant-loop-k g l =
    (s : List ℕ) (f : ℕ → Change) (place : ℕ → ℕ) (old whole most : ℕ) (rest : List Change)
    → Measures s l.many (goal.F-pre g l.change) (goal.F-post g l.change) f place old whole most rest l.at l.n
    → Measured old whole (most + 20 * l.k) (list_from l.k (l.many - l.k) f ++ rest) l.length × From s l.from (place l.k)
