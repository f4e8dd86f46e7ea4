use Rattle.std.proofs.Common.{ℕ, refl, ◌∙◌, arith}
use borrow.Author.Tests.{eqb-true}
use Rattle.terms.specs.Limits.{owner}
use Rattle.heap.specs.Walk.{Within, owned_by}
use Rattle.heap.proofs.Reached.{walked_only}
use Rattle.heap.proofs.Visit.{visited_still, visited_then, visited_walked}
use Rattle.heap.proofs.Heap.reached.Goals as goal

pub returns-then-p-lt-NODES : goal.returns-then-p-lt-NODES
returns-then-p-lt-NODES c = walked_only _ _ _ (visited_walked (visited_then (rw c.unmarked-marks.ensures at c.visit_roots.ensures) c.visit_pointed.ensures))

pub returns-else-p-lt-NODES : goal.returns-else-p-lt-NODES
returns-else-p-lt-NODES c =
    let none : (o : ℕ) → Within (owned_by c.args.p) o → ⊥ =
    λ o w. omega (arith, eqb-true (owner o) c.args.p w.inside, w.number) in
    c.unmarked-marks.ensures ∙ walked_only _ _ _ (visited_walked (visited_still refl (λ o l w. absurd (none o w))))
