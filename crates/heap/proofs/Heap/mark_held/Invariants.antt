-- The invariant: the fields of the marked objects before `o` are marked.
use Rattle.std.specs.Prelude.{if◌then◌else◌}
use Rattle.std.proofs.Common.{ℕ, List, [], Bool, ◌≡◌}
use Rattle.terms.specs.Counted.{gather}
use Rattle.heap.specs.declared.Heap.{Heap}
use Rattle.heap.specs.Heap.{fields_of}
use Rattle.heap.specs.Walk.{everywhere, is_marked, mark}
use Rattle.heap.proofs.Heap.mark_held.Given as goal

-- what object o holds, if it is marked
abbrev pub held_of : Heap → List Bool → ℕ → List ℕ
held_of h m o = if is_marked m o then fields_of h o else []

abbrev pub invariant-loop-o : goal.invariant-loop-o
invariant-loop-o l = l.marks.seen ≡ mark everywhere l.fn.marks.seen (gather l.o (held_of l.self l.holders.seen))
