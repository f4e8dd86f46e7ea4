-- The invariant: the marks below `o` are written, and the scan may go on at `at`.
use Rattle.std.proofs.Common.{◌+◌, ◌*◌, false, replicate}
use Rattle.terms.specs.Limits.{OBJECTS}
use Rattle.terms.proofs.ListLaws.{Filled}
use Rattle.image.specs.Order.{position}
use Rattle.splice.specs.Onward.{From}
use Rattle.plan.specs.Sweep.{present_of}
use Rattle.plan.proofs.sweeps.present_in.Given as goal

abbrev pub invariant-loop-o : goal.invariant-loop-o
invariant-loop-o l = record {
  scan : From l.image l.at (position 4 (256 * l.p + l.o));
  marks : Filled false (present_of l.image l.p) (replicate OBJECTS false) l.o l.seen;
}
