-- The copying under way: after the event count and after each change.
use Rattle.std.proofs.Common.{◌≡◌, ◌∙◌, refl, zero-add, arith}
use Rattle.terms.proofs.BufferLaws.{sets_front}
use Rattle.plan.specs.Made.{accepted_plan}
use Rattle.etzvanul.specs.Going.{start, on, ready, rest_room, ended}
use Rattle.etzvanul.specs.Orderly.{others}
use Rattle.etzvanul.specs.Spliced.{new_image}
use Rattle.etzvanul.proofs.Planning.{plan_next}
use Rattle.etzvanul.proofs.Sweeping.{ready_next, on_next, behind}
use Rattle.etzvanul.proofs.puts.put_plan.Goals as goal

pub put_count-c-requires : goal.put_count-c-requires
put_count-c-requires c =
    let a = c.args in
    let r = ready (start a.count (others (accepted_plan a.plan.now)) a.l.now a.out.now c.requires) in
    (r.0, rw zero-add at r.1)

pub loop-change-init : goal.loop-change-init
loop-change-init c =
    let a = c.args in
    on (start a.count (others (accepted_plan a.plan.now)) a.l.now a.out.now c.requires) c.put_count-c.ensures

pub put_change-c-requires : goal.put_change-c-requires
put_change-c-requires c =
    let is = plan_next c.args.plan.now c.changes-change-items.result c.changes-change-items.ensures c.loop-change.change-index _ c.loop-change-test.true in
    ready_next c.loop-change.invariant is refl

pub loop-change-preserved : goal.loop-change-preserved
loop-change-preserved c =
    let is = plan_next c.args.plan.now c.changes-change-items.result c.changes-change-items.ensures c.loop-change.change-index _ c.loop-change-test.true in
    on_next c.loop-change.invariant is refl c.put_change-c.ensures

pub copy_part-requires : goal.copy_part-requires
copy_part-requires c =
    let last : c.loop-change.change-index ≡ 4 = omega (arith, c.loop-change.auto.change-index-end) in
    rest_room (behind c.loop-change.invariant (rw last refl))

pub returns : goal.returns
returns c =
    let a = c.args in
    let last : c.loop-change.change-index ≡ 4 = omega (arith, c.loop-change.auto.change-index-end) in
    c.copy_part.ensures.stands ∙ ended (behind c.loop-change.invariant (rw last refl))
    ∙ sets_front a.out.now (new_image a.count (accepted_plan a.plan.now) a.l.now) c.requires.1
