-- The invariants: the objects below `o`, then the roots below `p`, are as the image tells, and the scan may go on at `at`.
use Rattle.std.proofs.Common.{◌≡◌}
use Rattle.terms.specs.Counted.{list}
use Rattle.terms.specs.Limits.{OBJECTS}
use Rattle.terms.proofs.ListLaws.{Filled}
use Rattle.heap.specs.Heap.{fresh_heap, idle}
use Rattle.image.specs.Find.{no_roots}
use Rattle.image.specs.Order.{position}
use Rattle.splice.specs.Onward.{From}
use Rattle.plan.specs.Plan.{object_of, roots_of}
use Rattle.plan.proofs.sweeps.heap_in.Given as goal

abbrev pub invariant-loop-o : goal.invariant-loop-o
invariant-loop-o l = record {
  scan : From l.image l.at (position 1 l.o);
  objects : Filled idle (object_of l.image) fresh_heap.objects l.o l.h.objects;
  roots : l.h.roots ≡ fresh_heap.roots;
}

abbrev pub invariant-loop-p : goal.invariant-loop-p
invariant-loop-p l = record {
  scan : From l.image l.at (position 2 l.p);
  objects : l.h.objects ≡ list OBJECTS (object_of l.image);
  roots : Filled no_roots (roots_of l.image) fresh_heap.roots l.p l.h.roots;
}
