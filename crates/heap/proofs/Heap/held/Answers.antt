use Rattle.std.proofs.Common.{◌≡◌, sym, ◌∙◌, arith}
use Rattle.terms.specs.Counted.{list_from}
use Rattle.terms.specs.Limits.{ROOTS}
use Rattle.heap.specs.Heap.{root_at, roots_of}
use Rattle.heap.specs.Walk.{everywhere, unmarked, mark}
use Rattle.heap.proofs.Reached.{mark-last, mark_append, mark-everywhere}
use Rattle.heap.proofs.Heap.held.Goals as goal

pub loop-r-preserved : goal.loop-r-preserved
loop-r-preserved c = mark-last _ (root_at c.args.self.now c.args.p) c.loop-r.r c.loop-r.invariant (rw c.root.ensures at c.set_mark.ensures)

pub returns : goal.returns
unfolding list_from
returns c =
    let all : c.loop-r.r ≡ ROOTS = omega arith in
    let roots : c.loop-r.held.seen ≡ mark everywhere unmarked (roots_of c.args.self.now c.args.p) = rw all at c.loop-r.invariant in
    c.mark_held.ensures ∙ rw roots (sym (mark_append _ _ _ _)) ∙ mark-everywhere _
