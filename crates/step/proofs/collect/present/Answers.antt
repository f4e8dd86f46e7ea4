use Rattle.std.proofs.Common.{false, rules}
use Rattle.terms.specs.Limits.{OBJECTS}
use Rattle.entry.specs.Entry.{is_present}
use Rattle.table.specs.Table.{entry_at}
use Rattle.step.proofs.Lists.{list-from_fn}
use Rattle.step.proofs.collect.present.Goals as goal

pub returns : goal.returns
returns c = list-from_fn _ _ (λ o. is_present (entry_at c.args.t.now c.args.p o)) false (λ k y q call. search rules) _ OBJECTS c.from_fn.ensures.items
