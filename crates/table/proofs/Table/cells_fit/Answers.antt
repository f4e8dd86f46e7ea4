use Rattle.std.proofs.Common.{rules, tests}
use Rattle.terms.specs.Limits.{OBJECTS}
use Rattle.table.specs.Shape.{fits_cell}
use Rattle.terms.proofs.ZipLaws.{all-zip}
use Rattle.table.proofs.Table.cells_fit.Goals as goal

pub returns : goal.returns
returns c =
    all-zip {s = c.zip.result} fits_cell _ c.args.self.now.cells OBJECTS c.all.new.self _ _ c.all.ensures.ran (search rules) (search rules) (search rules) (λ x b q k. search (rules, tests))
