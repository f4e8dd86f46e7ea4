use Rattle.std.proofs.Common.{◌≡◌, true, sym, ◌∙◌, rules, tests}
use Rattle.terms.specs.Counted.{list_from}
use Rattle.terms.specs.Limits.{FIELDS}
use Rattle.terms.proofs.ListLaws.{all_list}
use Rattle.heap.specs.Heap.{field_at}
use Rattle.heap.specs.Walk.{is_marked}
use Rattle.step.specs.CollectParts.{may_hold_by}
use Rattle.step.proofs.Lists.{all-range}
use Rattle.step.proofs.Collection.fields_allowed.Goals as goal

pub returns-else-not-is_marked : goal.returns-else-not-is_marked
unfolding list_from
returns-else-not-is_marked c =
    let a = c.args.self.now in
    let o = c.args.o in
    let may = may_hold_by a.present.seen a.node in
    let marked : is_marked a.kept.seen o ≡ true = sym c.if-not-is_marked.ensures in
    rw marked (
    all-range FIELDS (λ f. may (field_at a.heap o f)) _ _ _ c.all.ensures.ran (λ x b q k. search (rules, tests))
    ∙ sym (all_list may 0 FIELDS (field_at a.heap o)))
