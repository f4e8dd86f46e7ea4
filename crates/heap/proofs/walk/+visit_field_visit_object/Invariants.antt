-- The measure: five steps for each object of the node that is not marked, and one for each field left of the object at hand.
use Rattle.std.proofs.Common.{suc, ◌+◌, ◌*◌, ◌-◌}
use Rattle.terms.specs.Limits.{FIELDS}
use Rattle.heap.specs.Walk.{owned_by}
use Rattle.heap.proofs.Reached.{left}
use Rattle.heap.proofs.walk.+visit_field_visit_object.Given as goal

abbrev pub decreases-visit_field : goal.decreases-visit_field
decreases-visit_field l = suc FIELDS * left (owned_by l.p) l.marks.now.seen + (FIELDS - l.f)

abbrev pub decreases-visit_object : goal.decreases-visit_object
decreases-visit_object l = suc FIELDS * left (owned_by l.p) l.marks.now.seen
