use Rattle.std.proofs.Common.{◌≡◌, sym, ◌∙◌, rules, tests}
use Rattle.terms.specs.Counted.{every}
use Rattle.terms.specs.Limits.{OBJECTS, NODES}
use Rattle.heap.specs.Heap.{object_at, roots_at, fits_object, fits_roots, fits_heap}
use Rattle.terms.proofs.ChainLaws.{all-every}
use Rattle.heap.proofs.Heap.fits.Goals as goal

pub returns-then-all : goal.returns-then-all
unfolding fits_heap
returns-then-all c =
    let h = c.args.self.now in
    let objects : c.all.result ≡ every OBJECTS (λ o. fits_object (object_at h o)) =
    all-every fits_object _ h.objects OBJECTS _ _ _ c.all.ensures.ran (cc) (search rules) (λ x b q k. search (rules, tests)) in
    let roots : c.all-then-all.result ≡ every NODES (λ p. fits_roots (roots_at h p)) =
    all-every fits_roots _ h.roots NODES _ _ _ c.all-then-all.ensures.ran (cc) (search rules) (λ x b q k. search (rules, tests)) in
    rw (sym objects ∙ c.if-all.true) roots

pub returns-else-all : goal.returns-else-all
unfolding fits_heap
returns-else-all c =
    let h = c.args.self.now in
    let objects : c.all.result ≡ every OBJECTS (λ o. fits_object (object_at h o)) =
    all-every fits_object _ h.objects OBJECTS _ _ _ c.all.ensures.ran (cc) (search rules) (λ x b q k. search (rules, tests)) in
    rw (sym objects ∙ c.if-all.false) c.if-all.false
