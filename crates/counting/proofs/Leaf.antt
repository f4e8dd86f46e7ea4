-- Law E's way onward: while an entry hangs somewhere and nothing in the air counts, some such entry counts nothing, so that it may go
-- (document 01, law E; PROOF-PLAN, "Law E"). Assumes nothing.
use Rattle.std.specs.Prelude.{◌≡◌, ℕ, zero, suc, ◌+◌, ◌≤◌, ◌<◌}
use Rattle.std.proofs.Math.Decide.{ℕ_discrete}
use Rattle.std.proofs.Common.{arith}
use Rattle.terms.specs.CountedLaws.{Some}
use Rattle.terms.proofs.CountedLaws.{sum_zero}
use Rattle.counting.specs.Adding.{sum_some}
use Rattle.counting.specs.Rules.{Rules, Share, Lawful, Hangs}
use Rattle.counting.proofs.Under.{height, height_falls, height_bound}

module _ (R : Rules) (c : Share R) (lawful : Lawful R c) (no_air : (s p : ℕ) → s < R.places → p < R.nodes → R.air p (c.message s) ≡ 0) where
  -- an entry that hangs and counts nothing
  abbrev pub Leaf : ℕ → Type 0
  Leaf p = Hangs R c p × (R.rc (c.entry p) ≡ 0)

  -- a count without anything in the air is of an entry that hangs here, one that is higher; and no height is that of all nodes
  climb : (n p : ℕ) → p < R.nodes → R.nodes ≤ height R c lawful p + n → Hangs R c p → Some R.nodes Leaf
  climb zero p lp high hangs = absurd (omega (arith, height_bound R c lawful p lp))
  climb (suc n) p lp high hangs = elim (ℕ_discrete (R.rc (c.entry p)) 0) [
    | yes e ↦ (p, lp, (hangs, e))
    | no ne ↦
        let air = sum_zero R.places (λ s. R.air p (c.message s)) (λ s ls. no_air s p ls lp) in
        let above = sum_some R.nodes (λ q. R.weight p (c.entry q)) (omega (arith, lawful.law_a p lp)) in
        climb n above.0 above.1 (omega (arith, height_falls R c lawful above.0 p above.1 lp above.2)) (p, lp, above.2)
  ]

  -- where an entry hangs, there is a leaf
  pub leaf : Some R.nodes (Hangs R c) → Some R.nodes Leaf
  leaf (p, lp, hangs) = climb R.nodes p lp (omega arith) hangs
