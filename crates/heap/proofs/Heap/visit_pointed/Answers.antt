use Rattle.std.proofs.Common.{rules, add-one}
use Rattle.terms.specs.Counted.{gather_from}
use Rattle.terms.proofs.CountedLaws.{gather_last}
use Rattle.heap.specs.Visit.{Visited}
use Rattle.heap.specs.Walk.{owned_by}
use Rattle.heap.proofs.Visit.{visited_none, visited_then}
use Rattle.heap.proofs.Heap.visit_pointed.Invariants.{pointed_at}
use Rattle.heap.proofs.Heap.visit_pointed.Goals as goal
use Rattle.heap.proofs.Heap.visit_pointed.Goals.{then-tests-from, else-tests-from}

pub loop-k-init : goal.loop-k-init
unfolding gather_from
loop-k-init c = visited_none (search rules)

pub loop-k-preserved : goal.loop-k-preserved
loop-k-preserved c =
    let here : Visited c.args.self.now (owned_by c.args.p) (pointed_at c.args.p c.args.tests c.loop-k.k) c.loop-k.marks.seen c.if-tests-from.marks.seen =
    elim c.if-tests-from.branch [
      | then-tests-from w ↦ rw (rw c.from.ensures at w.if-tests-from.true, w.marks-is) w.visit_object.ensures
      | else-tests-from w ↦ rw (rw c.from.ensures at w.if-tests-from.false, w.marks-is) (visited_none c.loop-k.invariant.size)
    ] in
    rw (add-one c.loop-k.k, gather_last c.loop-k.k) (visited_then c.loop-k.invariant here)
