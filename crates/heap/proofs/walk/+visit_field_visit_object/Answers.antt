use Rattle.std.proofs.Common.{◌≡◌, ℕ, ◌<◌, arith, rules}
use borrow.Author.Tests.{eq-eqb, ne_eqb}
use Rattle.terms.specs.Counted.{list_from}
use Rattle.terms.proofs.CountedLaws.{list_from_first, list_from_none}
use Rattle.terms.specs.Limits.{NODES, owner}
use Rattle.heap.specs.Heap.{field_at}
use Rattle.heap.specs.Walk.{Within, owned_by}
use Rattle.heap.proofs.Reached.{left_le, left-set}
use Rattle.heap.proofs.Visit.{visited_none, visited_outside, visited_again, visited_then, visited_enter}
use Rattle.heap.proofs.walk.+visit_field_visit_object.Goals as goal
use Rattle.heap.proofs.walk.+visit_field_visit_object.Goals.{visit_object-else-o-p-via-then-o-p+else-not-marks-i, visit_object-else-o-p-via-else-o-p}

-- an object of node p has a number that every object list has
within : (p o : ℕ) → p < NODES → owner o ≡ p → Within (owned_by p) o
within p o lt e = record { number = omega arith; inside = eq-eqb (owner o) p e }

pub visit_field-visit_field-requires : goal.visit_field-visit_field-requires
visit_field-visit_field-requires t c =
    let fewer = left_le (owned_by c.args.p) c.args.marks.now.seen c.visit_object.new.marks.seen c.visit_object.ensures.grows in
    (omega arith, c.requires)

pub visit_field-returns-then-f-lt-FIELDS : goal.visit_field-returns-then-f-lt-FIELDS
visit_field-returns-then-f-lt-FIELDS t c =
    rw (list_from_first c.if-f-lt-FIELDS.true (field_at c.args.heap.now c.args.o))
    (visited_then (rw c.field.ensures at c.visit_object.ensures) c.visit_field.ensures)

pub visit_field-returns-else-f-lt-FIELDS : goal.visit_field-returns-else-f-lt-FIELDS
visit_field-returns-else-f-lt-FIELDS t c = rw (list_from_none c.if-f-lt-FIELDS.false _) (visited_none (search rules))

pub visit_object-visit_field-requires : goal.visit_object-visit_field-requires
visit_object-visit_field-requires t c =
    let inside = within c.args.p c.args.o c.requires c.if-o-p.true in
    let fewer = left-set (owned_by c.args.p) c.args.marks.now.seen c.args.o (search rules) inside (rw c.from-i.ensures at c.if-not-marks-i.true) in
    (omega (arith, rw (← c.from-i.ensures) at fewer), c.requires)

pub visit_object-returns-then-not-marks-i : goal.visit_object-returns-then-not-marks-i
unfolding list_from
visit_object-returns-then-not-marks-i t c =
    let inside = within c.args.p c.args.o c.requires c.if-o-p.true in
    visited_enter inside (search rules) (rw c.from-i.ensures at c.visit_field.ensures)

pub visit_object-returns-else-o-p : goal.visit_object-returns-else-o-p
visit_object-returns-else-o-p t c = elim c.else-o-p.branch [
  | visit_object-else-o-p-via-then-o-p+else-not-marks-i w ↦ visited_again (search rules) (rw c.from-i.ensures at w.if-not-marks-i.false)
  | visit_object-else-o-p-via-else-o-p w ↦ visited_outside (search rules) (ne_eqb _ _ w.if-o-p.false)
]
