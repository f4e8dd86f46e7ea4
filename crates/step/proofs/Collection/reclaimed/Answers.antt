use Rattle.std.proofs.Common.{rules, tests}
use Rattle.terms.specs.Limits.{OBJECTS}
use Rattle.step.specs.CollectParts.{reclaims}
use Rattle.step.proofs.Lists.{count-how_many}
use Rattle.step.proofs.Collection.reclaimed.Goals as goal

pub returns : goal.returns
returns c =
    let a = c.args.self.now in
    count-how_many OBJECTS (reclaims a.heap a.node a.kept.seen) _ _ _ c.count.ensures.ran c.filter.ensures.source c.filter.ensures.closure (λ x b q k. search (rules, tests))
