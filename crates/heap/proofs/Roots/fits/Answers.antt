use Rattle.std.proofs.Common.{rules, tests}
use Rattle.terms.specs.Limits.{ROOTS}
use Rattle.heap.specs.Heap.{fits_roots, fits_name}
use Rattle.terms.proofs.ChainLaws.{all-every}
use Rattle.heap.proofs.Roots.fits.Goals as goal

pub returns : goal.returns
unfolding fits_roots
returns c = all-every fits_name 0 c.args.self.now.at ROOTS _ _ _ c.all.ensures.ran (cc) (search rules) (λ x b q k. search (rules, tests))
