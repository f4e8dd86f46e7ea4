use Rattle.std.proofs.Common.{rules, tests}
use Rattle.terms.specs.Limits.{FIELDS}
use Rattle.heap.specs.Heap.{fits_object, fits_field}
use Rattle.terms.proofs.ChainLaws.{all-every}
use Rattle.heap.proofs.Object.fits.Goals as goal

pub returns : goal.returns
unfolding fits_object
returns c =
    let x = c.args.self.now in
    all-every (fits_field x.live) 0 x.fields FIELDS _ _ _ c.all.ensures.ran (cc) (search rules) (λ x b q k. search (rules, tests))
