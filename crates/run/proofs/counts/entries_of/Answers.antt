use Rattle.std.proofs.Common.{not, rules, tests}
use Rattle.terms.specs.Limits.{NODES}
use Rattle.entry.specs.Entry.{is_absent}
use Rattle.table.specs.Table.{entry_at}
use Rattle.run.proofs.Counting.{how_many-filter}
use Rattle.run.proofs.counts.entries_of.Goals as goal

pub returns : goal.returns
returns c =
    how_many-filter (λ p. not (is_absent (entry_at c.args.t.now p c.args.o))) NODES c.filter.ensures.source c.filter.ensures.closure c.count.ensures.ran
    (λ k b q called. search (rules, tests))
