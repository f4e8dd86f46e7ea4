use Rattle.std.proofs.Common.{ℕ, rules, tests}
use Rattle.terms.specs.Limits.{PLACES}
use Rattle.terms.proofs.ChainLaws.{find-lowest}
use Rattle.table.specs.Table.{is_empty, message_at}
use Rattle.table.proofs.Table.empty_place.Goals as goal

pub returns-clause-lowest : goal.returns-clause-lowest
returns-clause-lowest c =
    let empty = λ (s : ℕ). is_empty (message_at c.args.self.now s) in
    find-lowest PLACES empty _ _ c.find.result c.find.ensures.ran (λ s b q e. search (rules, tests))
