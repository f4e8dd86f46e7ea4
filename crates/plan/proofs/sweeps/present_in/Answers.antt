use Rattle.std.proofs.Common.{refl, sym, ◌+◌, ◌*◌, arith, false, eq-eqb, ne_eqb}
use Rattle.std.proofs.lemmas.List.{get_or-replicate}
use Rattle.terms.specs.Limits.{OBJECTS, owner}
use Rattle.terms.proofs.ListLaws.{filled_set, filled_keep, filled_all}
use Rattle.image.specs.Order.{position}
use Rattle.splice.proofs.Changed.{other_position}
use Rattle.splice.proofs.Resumed.{from_later, found_on, from_found}
use Rattle.plan.specs.Sweep.{present_in}
use Rattle.plan.proofs.Slices.{slice_bytes}
use Rattle.plan.proofs.sweeps.present_in.Goals as goal
use Rattle.plan.proofs.sweeps.present_in.Goals.{then-p-o, else-p-o}

pub loop-o-preserved : goal.loop-o-preserved
loop-o-preserved c = elim c.if-p-o.branch [
  | then-p-o w ↦
      let at = other_position c.args.p c.loop-o.o w.if-p-o.true in
      let found = found_on _ (rw at c.loop-o.invariant.scan) w.entry_from-found.ensures in
      let bytes = slice_bytes c.args.image.now c.type_inv.image in
      let away = ne_eqb (owner c.loop-o.o) c.args.p (λ e. w.if-p-o.true (sym e)) in
      let written = filled_set c.loop-o.invariant.marks w.is_present.result c.loop-o-test.true (rw (w.is_present.ensures, w.entry.ensures, found, away)) in
      rw (w.seen-is, w.from.ensures, w.at-is) (record { scan = from_found _ bytes _ _ found _ (rw at (omega arith)); marks = written })
  | else-p-o w ↦
      let on = from_later _ c.loop-o.at _ (position 4 (256 * c.args.p + (c.loop-o.o + 1))) (omega arith) c.loop-o.invariant.scan in
      let own = eq-eqb (owner c.loop-o.o) c.args.p (sym w.if-p-o.false) in
      let kept = filled_keep c.loop-o.invariant.marks (rw own (get_or-replicate OBJECTS c.loop-o.o false false c.loop-o-test.true)) in
      rw (w.seen-is, w.at-is) (record { scan = on; marks = kept })
]

pub returns : goal.returns
unfolding present_in
returns c = filled_all c.loop-o.invariant.marks OBJECTS refl c.loop-o-test.false
