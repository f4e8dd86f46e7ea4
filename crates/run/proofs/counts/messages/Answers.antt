use Rattle.std.proofs.Common.{not, rules, tests}
use Rattle.terms.specs.Limits.{PLACES}
use Rattle.table.specs.Table.{is_empty, message_at}
use Rattle.run.proofs.Counting.{how_many-filter}
use Rattle.run.proofs.counts.messages.Goals as goal

pub returns : goal.returns
returns c =
    how_many-filter (λ s. not (is_empty (message_at c.args.t.now s))) PLACES c.filter.ensures.source c.filter.ensures.closure c.count.ensures.ran
    (λ k b q called. search (rules, tests))
