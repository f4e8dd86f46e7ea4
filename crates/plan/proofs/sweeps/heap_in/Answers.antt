use Rattle.std.proofs.Common.{refl, arith}
use Rattle.terms.specs.Limits.{NODES, OBJECTS}
use Rattle.terms.proofs.ListLaws.{filled_none, filled_set, filled_all}
use Rattle.image.specs.Order.{position}
use Rattle.splice.proofs.Resumed.{from_later, found_on, from_found}
use Rattle.plan.specs.Sweep.{heap_in}
use Rattle.plan.proofs.Slices.{slice_bytes}
use Rattle.plan.proofs.sweeps.heap_in.Goals as goal

pub loop-o-preserved : goal.loop-o-preserved
loop-o-preserved c =
    let found = found_on _ c.loop-o.invariant.scan c.object_from-found.ensures in
    record {
      scan = from_found _ (slice_bytes c.args.image.now c.type_inv.image) _ _ found _ (omega arith);
      objects = rw c.from.ensures (filled_set c.loop-o.invariant.objects _ c.loop-o-test.true (rw (c.object.ensures, found)));
      roots = c.loop-o.invariant.roots;
    }

pub loop-p-init : goal.loop-p-init
loop-p-init c = record {
  scan = from_later _ c.loop-o.at _ (position 2 0) (omega arith) c.loop-o.invariant.scan;
  objects = filled_all c.loop-o.invariant.objects OBJECTS refl c.loop-o-test.false;
  roots = rw c.loop-o.invariant.roots filled_none;
}

pub loop-p-preserved : goal.loop-p-preserved
loop-p-preserved c =
    let found = found_on _ c.loop-p.invariant.scan c.roots_from-found.ensures in
    record {
      scan = from_found _ (slice_bytes c.args.image.now c.type_inv.image) _ _ found _ (omega arith);
      objects = c.loop-p.invariant.objects;
      roots = rw c.from-in-loop-p.ensures (filled_set c.loop-p.invariant.roots _ c.loop-p-test.true (rw (c.roots.ensures, found)));
    }

pub returns : goal.returns
unfolding heap_in
returns c = rw (← filled_all c.loop-p.invariant.roots NODES refl c.loop-p-test.false, ← c.loop-p.invariant.objects)
