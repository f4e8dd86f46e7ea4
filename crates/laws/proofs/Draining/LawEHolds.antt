-- Law E holds in every table whose counts are in order: after any accepted events without a SEND of the object, as many SETTLEs of it
-- and what is still due are what was due (document 01, law E; PROOF-PLAN, "Law E"). Assumes nothing.
use Rattle.std.specs.Prelude.{◌≡◌, true, ℕ, ◌+◌}
use Rattle.std.proofs.Common.{zero-add, arith}
use Rattle.table.specs.declared.Table.{Table}
use Rattle.table.specs.Formed.{Formed}
use Rattle.table.specs.Shape.{fits_table}
use Rattle.step.specs.Step.{step}
use Rattle.laws.proofs.Counting.CountsKept.{Counted, counted_kept, counted_lawful}
use Rattle.laws.proofs.Counting.LinkCollect.{change}
use Rattle.laws.proofs.Draining.Along.{carried}
use Rattle.laws.proofs.Draining.Drained.{due_clear, due_kept, unused_kept}
use Rattle.laws.proofs.Draining.OneMore.{onward}
use Rattle.laws.proofs.Events.DidLaws.{count_after}
use Rattle.laws.proofs.Events.KeepsShape.{keeps_shape}
use Rattle.laws.proofs.Events.Kept.{Keeps}
use Rattle.laws.specs.LawE.{LawE, Unused, due}

-- the counts are in order
pub record InOrder (t : Table) : Type 0 where
  pub shape : fits_table t ≡ true
  pub counted : Counted t

-- every accepted event keeps them so
keeps_order : Keeps InOrder
keeps_order t e formed accepted order =
    let after = keeps_shape t e formed accepted in
    record {
      shape = after;
      counted = counted_kept t (step t e).table order.shape after (count_after t e accepted) (change t e formed accepted) order.counted;
    }

-- n SETTLEs of o on the way from a table where `whole` was due: nobody uses o, and the rest is due
record Due (o whole n : ℕ) (t : Table) : Type 0 where
  order : InOrder t
  idle : Unused t o
  rest : n + due t o ≡ whole

-- law E of a formed table whose counts are in order
pub law_e : (t : Table) → Formed t → InOrder t → LawE t
law_e t formed order o lo idle es u run unsent =
    let after = carried lo {P = Due o (due t o)}
    (λ n t e formed accepted l quiet so_far. record {
      order = keeps_order t e formed accepted so_far.order;
      idle = unused_kept l.change so_far.idle quiet;
      rest = omega (arith, due_kept l.change so_far.idle quiet, so_far.rest);
    }) formed run unsent 0 (record { order = order; idle = idle; rest = zero-add (due t o) }) in
    let clear = due_clear u o after.order.shape lo (counted_lawful u after.order.shape after.order.counted o lo) after.idle in (
      (λ is_clear. omega (arith, clear.1 is_clear, after.rest), λ all. clear.0 (omega (arith, after.rest))),
      λ less. onward u o after.order.shape lo after.order.counted after.idle (omega (arith, after.rest)),
    )
