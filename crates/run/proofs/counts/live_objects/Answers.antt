use Rattle.std.proofs.Common.{rules, tests}
use Rattle.terms.specs.Limits.{OBJECTS}
use Rattle.heap.specs.Heap.{is_live}
use Rattle.run.proofs.Counting.{how_many-filter}
use Rattle.run.proofs.counts.live_objects.Goals as goal

pub returns : goal.returns
returns c =
    how_many-filter (is_live c.args.h.now) OBJECTS c.filter.ensures.source c.filter.ensures.closure c.count.ensures.ran
    (λ k b q called. search (rules, tests))
