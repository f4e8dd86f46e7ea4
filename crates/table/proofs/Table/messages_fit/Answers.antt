use Rattle.std.proofs.Common.{rules, tests}
use Rattle.terms.specs.Limits.{PLACES}
use Rattle.terms.proofs.ChainLaws.{all-every}
use Rattle.table.specs.declared.Place.{Place}
use Rattle.table.specs.Shape.{fits_message}
use Rattle.table.proofs.Table.messages_fit.Goals as goal

pub returns : goal.returns
returns c =
    all-every (λ (x : Place). fits_message x.held) _ c.args.self.now.air PLACES _ _ _ c.all.ensures.ran (cc) (search rules) (λ x b q k. search (rules, tests))
