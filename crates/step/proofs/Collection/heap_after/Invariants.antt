-- The invariant: the objects below `o` are as they are to be, the others as they were.
use Rattle.std.proofs.Common.{◌≡◌, false, [], if◌then◌else◌}
use Rattle.terms.proofs.ListLaws.{Filled}
use Rattle.heap.specs.Heap.{idle, object_at}
use Rattle.step.specs.CollectParts.{reclaims}
use Rattle.step.proofs.Collection.heap_after.Given as goal

abbrev pub invariant-loop-o : goal.invariant-loop-o
invariant-loop-o l =
    Filled
    (record { live = false; fields = [] })
    (λ k. if reclaims l.self.heap l.self.node l.self.kept.seen k then idle else object_at l.self.heap k)
    l.self.heap.objects
    l.o
    l.heap.objects
    × (l.heap.roots ≡ l.self.heap.roots)
