use Rattle.std.proofs.Common.{false, rules}
use Rattle.terms.specs.Limits.{OBJECTS}
use Rattle.step.specs.CollectParts.{reclaims, is_unused}
use Rattle.step.proofs.Lists.{list-from_fn}
use Rattle.plan.proofs.sweeps.swept.Goals as goal

pub returns-clause-tests : goal.returns-clause-tests
returns-clause-tests c =
    let s = c.args.collection.now in
    let gone = list-from_fn _ _ (reclaims s.heap s.node s.kept.seen) false (λ o y q call. search rules) _ OBJECTS c.from_fn.ensures.items in
    let unused =
    list-from_fn _ _ (is_unused s.node s.present.seen s.held.seen) false (λ o y q call. search rules) _ OBJECTS c.from_fn-2.ensures.items in
    rw (c.reclaimed.ensures, gone, unused)
