use Rattle.std.proofs.Common.{ℕ, rules, tests}
use Rattle.terms.specs.Limits.{NODES}
use Rattle.entry.specs.Fits.{fits_entry}
use Rattle.table.specs.declared.Slot.{Slot}
use Rattle.table.specs.Shape.{fits_cell}
use Rattle.terms.proofs.ZipLaws.{all-zip}
use Rattle.table.proofs.Cell.fits.Goals as goal

pub returns : goal.returns
unfolding fits_cell
returns c =
    let test = λ (p : ℕ) (s : Slot). fits_entry p c.args.o s.held in
    all-zip {s = c.zip.result} test _ c.args.self.now.at NODES c.all.new.self _ _ c.all.ensures.ran (search rules) (search rules) (search rules) (λ x b q k. search (rules, tests))
