-- The invariant: the objects before `k` that are pointed at are visited.
use Rattle.std.specs.Prelude.{if◌then◌else◌}
use Rattle.std.proofs.Common.{ℕ, List, [], ◌∷◌, Bool, false, ◌+◌, ◌*◌, get_or}
use Rattle.terms.specs.Counted.{gather}
use Rattle.terms.specs.Limits.{OWNED}
use Rattle.heap.specs.Visit.{Visited}
use Rattle.heap.specs.Walk.{owned_by}
use Rattle.heap.proofs.Heap.visit_pointed.Given as goal

-- object k of the node, if it is pointed at
abbrev pub pointed_at : ℕ → List Bool → ℕ → List ℕ
pointed_at p tests k = if get_or tests k false then (OWNED * p + k) ∷ [] else []

abbrev pub invariant-loop-k : goal.invariant-loop-k
invariant-loop-k l = Visited l.self (owned_by l.p) (gather l.k (pointed_at l.p l.tests)) l.fn.marks.seen l.marks.seen
