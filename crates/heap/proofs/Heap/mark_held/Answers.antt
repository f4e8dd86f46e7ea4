use Rattle.std.proofs.Common.{◌≡◌, refl, sym, ◌∙◌, arith, add-one}
use Rattle.terms.specs.Limits.{OBJECTS}
use Rattle.terms.proofs.CountedLaws.{gather_last}
use Rattle.heap.specs.Walk.{everywhere, held_by, mark}
use Rattle.heap.proofs.Reached.{mark_append}
use Rattle.heap.proofs.Heap.mark_held.Invariants.{held_of}
use Rattle.heap.proofs.Heap.mark_held.Goals as goal
use Rattle.heap.proofs.Heap.mark_held.Goals.{then-is_marked, else-is_marked}

pub loop-o-preserved : goal.loop-o-preserved
unfolding mark
loop-o-preserved c =
    let here : c.if-is_marked.marks.seen ≡ mark everywhere c.loop-o.marks.seen (held_of c.args.self.now c.args.holders.now.seen c.loop-o.o) =
    elim c.if-is_marked.branch [
      | then-is_marked w ↦ rw (sym c.is_marked.ensures ∙ w.if-is_marked.true, w.marks-is) w.mark_fields.ensures
      | else-is_marked w ↦ rw (sym c.is_marked.ensures ∙ w.if-is_marked.false, w.marks-is) refl
    ] in
    rw (add-one c.loop-o.o, gather_last c.loop-o.o, mark_append, ← c.loop-o.invariant) here

pub returns : goal.returns
unfolding held_by
returns c =
    let all : c.loop-o.o ≡ OBJECTS = omega arith in
    rw all at c.loop-o.invariant
