use Rattle.std.proofs.Common.{◌+◌, ◌*◌, false, not, rules}
use Rattle.terms.specs.Limits.{OWNED}
use Rattle.entry.specs.Entry.{is_clear}
use Rattle.table.specs.Table.{entry_at}
use Rattle.step.specs.Collect.{counted}
use Rattle.step.proofs.Lists.{list-from_fn}
use Rattle.step.proofs.collect.counted.Goals as goal

pub returns-clause-counted : goal.returns-clause-counted
unfolding counted
returns-clause-counted c =
    list-from_fn _ _ (λ k. not (is_clear (entry_at c.args.t.now c.args.p (OWNED * c.args.p + k)))) false (λ k y q call. search rules) _ OWNED c.from_fn.ensures.items
