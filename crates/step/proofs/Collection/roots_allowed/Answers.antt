use Rattle.std.proofs.Common.{sym, ◌∙◌, rules, tests}
use Rattle.terms.specs.Counted.{list_from}
use Rattle.terms.specs.Limits.{ROOTS}
use Rattle.terms.proofs.ListLaws.{all_list}
use Rattle.heap.specs.Heap.{root_at}
use Rattle.step.specs.CollectParts.{may_hold_by}
use Rattle.step.proofs.Lists.{all-range}
use Rattle.step.proofs.Collection.roots_allowed.Goals as goal

pub returns : goal.returns
unfolding list_from
returns c =
    let a = c.args.self.now in
    let may = may_hold_by a.present.seen a.node in
    all-range ROOTS (λ r. may (root_at a.heap a.node r)) _ _ _ c.all.ensures.ran (λ x b q k. search (rules, tests))
    ∙ sym (all_list may 0 ROOTS (root_at a.heap a.node))
