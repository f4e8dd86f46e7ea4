-- The invariant: the tests below `k` are written, and the scan may go on at `at`.
use Rattle.std.proofs.Common.{◌+◌, ◌*◌, false, not, replicate}
use Rattle.terms.specs.Limits.{OWNED}
use Rattle.terms.proofs.ListLaws.{Filled}
use Rattle.entry.specs.Entry.{is_clear}
use Rattle.image.specs.Order.{position}
use Rattle.splice.specs.Onward.{From}
use Rattle.plan.specs.Plan.{entry_of}
use Rattle.plan.proofs.sweeps.counted_in.Given as goal

abbrev pub invariant-loop-k : goal.invariant-loop-k
invariant-loop-k l = record {
  scan : From l.image l.at (position 3 (OWNED * l.p + l.k));
  tests : Filled false (λ k. not (is_clear (entry_of l.image l.p (OWNED * l.p + k)))) (replicate OWNED false) l.k l.tests;
}
