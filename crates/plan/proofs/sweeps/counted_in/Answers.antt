use Rattle.std.proofs.Common.{refl, arith}
use Rattle.terms.specs.Limits.{OWNED}
use Rattle.terms.proofs.ListLaws.{filled_set, filled_all}
use Rattle.splice.proofs.Changed.{own_position}
use Rattle.splice.proofs.Resumed.{found_on, from_found}
use Rattle.plan.specs.Sweep.{counted_in}
use Rattle.plan.proofs.Slices.{slice_bytes}
use Rattle.plan.proofs.sweeps.counted_in.Goals as goal

pub loop-k-preserved : goal.loop-k-preserved
loop-k-preserved c =
    let at = own_position c.args.p c.loop-k.k c.loop-k-test.true in
    let found = found_on _ (rw at c.loop-k.invariant.scan) c.entry_from-found.ensures in
    record {
      scan = from_found _ (slice_bytes c.args.image.now c.type_inv.image) _ _ found _ (rw at (omega arith));
      tests = rw c.from.ensures (filled_set c.loop-k.invariant.tests _ c.loop-k-test.true (rw (c.is_clear.ensures, c.entry.ensures, found)));
    }

pub returns : goal.returns
unfolding counted_in
returns c = filled_all c.loop-k.invariant.tests OWNED refl c.loop-k-test.false
