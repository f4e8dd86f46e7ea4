use Rattle.std.proofs.Common.{◌≡◌, ◌<◌, length, length-set, refl, sym, ◌∙◌, arith}
use Rattle.terms.specs.Limits.{OBJECTS}
use Rattle.terms.proofs.ListLaws.{filled_none, filled_set, filled_keep, filled_all}
use Rattle.entry.specs.declared.Entry.TheVariants.{Absent}
use Rattle.table.specs.Table.{cell_at, cell_with}
use Rattle.step.specs.Collect.{cell_collected, held_at, kept}
use Rattle.step.specs.CollectParts.{held_marks, is_unused, present_at, reclaims}
use Rattle.step.proofs.CollectionLaws.{cell_left, cell_reclaimed, cell_unused, collect-effect}
use Rattle.step.proofs.collect.collect.Goals as goal
use Rattle.step.proofs.collect.collect.Goals.{then-is_reclaimed, else-is_reclaimed+then-is_unused, else-is_reclaimed+else-is_unused}

pub loop-o-init : goal.loop-o-init
loop-o-init c = (filled_none, refl, c.at.ensures.cells)

pub loop-o-preserved : goal.loop-o-preserved
loop-o-preserved c =
    let t = c.args.t.now in
    let p = c.args.p in
    let o = c.loop-o.o in
    let now = c.loop-o.t in
    let size = c.at.ensures.cells in
    let lt = c.loop-o-test.true in
    let made = c.in_ok-collection.ensures.made.0 in
    let filled = c.loop-o.invariant.0 in
    let others = c.loop-o.invariant.1 in
    let long = c.loop-o.invariant.2 in
    let here : o < length t.cells = omega (arith, size) in
    let was : cell_at now o ≡ cell_at t o = filled.above o (omega arith) in
    let gone : c.is_reclaimed.result ≡ reclaims t.heap p (kept t p) o = rw made at c.is_reclaimed.ensures in
    elim c.if-is_reclaimed.branch [
      | then-is_reclaimed w ↦
          let written : cell_with (cell_at now o) p Absent ≡ cell_collected t p (kept t p) (held_at t p (kept t p)) o (cell_at t o) = rw was (cell_reclaimed t size p o lt (sym gone ∙ w.if-is_reclaimed.true)) in
          rw (w.t-is, w.set_entry.ensures) (filled_set filled _ here written, others, simp length-set long)
      | else-is_reclaimed+then-is_unused w ↦
          let unused : w.is_unused.result ≡ is_unused p (present_at t p) (held_marks t.heap p (kept t p)) o = rw made at w.is_unused.ensures in
          let written : cell_with (cell_at now o) p w.set_unused.result ≡ cell_collected t p (kept t p) (held_at t p (kept t p)) o (cell_at t o) = rw (w.set_unused.ensures, w.entry_at.ensures, was) (cell_unused t size p o lt (sym unused ∙ w.if-is_unused.true)) in
          rw (w.t-is, w.set_entry-then-is_unused.ensures) (filled_set filled _ here written, others, simp length-set long)
      | else-is_reclaimed+else-is_unused w ↦
          let unused : w.is_unused.result ≡ is_unused p (present_at t p) (held_marks t.heap p (kept t p)) o = rw made at w.is_unused.ensures in
          let stays = cell_left t size p o lt (sym gone ∙ w.if-is_reclaimed.false) (sym unused ∙ w.if-is_unused.false) in
          rw w.t-is (filled_keep filled stays, others, long)
    ]

pub returns : goal.returns
returns c =
    let made = c.in_ok-collection.ensures.made in
    let cells = filled_all c.loop-o.invariant.0 OBJECTS c.at.ensures.cells c.loop-o-test.false in
    collect-effect c.args.t.now c.at.ensures.cells c.args.p _ made.0 c.loop-o.t c.loop-o.invariant.1 cells _ c.heap_after-t.ensures _ c.reclaimed.ensures
    ∙ sym made.1
