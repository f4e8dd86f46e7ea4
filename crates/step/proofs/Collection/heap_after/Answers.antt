use Rattle.std.proofs.Common.{◌≡◌, length, List, rules}
use Rattle.terms.specs.Limits.{OBJECTS}
use Rattle.terms.proofs.ListLaws.{filled_all}
use Rattle.heap.specs.declared.Object.{Object}
use Rattle.heap.specs.declared.Roots.{Roots}
use Rattle.heap.specs.declared.Heap.{Heap}
use Rattle.step.proofs.Collection.heap_after.Goals as goal

heap_is : (h : Heap) {objects : List Object} {roots : List Roots} → h.objects ≡ objects → h.roots ≡ roots
    → h ≡ record { objects = objects; roots = roots }
heap_is h os rs = rw (← os, ← rs)

pub returns : goal.returns
returns c =
    let size : length c.args.self.heap.objects ≡ OBJECTS = search rules in
    heap_is c.loop-o.heap (filled_all c.loop-o.invariant.0 OBJECTS size c.loop-o-test.false) c.loop-o.invariant.1
