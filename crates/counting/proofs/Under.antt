-- What the laws say of one entry and one message: each is within the count of the node under which it hangs; and no way along such nodes has as
-- many steps as there are nodes (document 01, law C; PROOF-PLAN, "Law C"). Assumes nothing.
use Rattle.std.specs.Prelude.{refl, true, ℕ, ◌≤◌, ◌<◌, ltb}
use Rattle.std.proofs.Common.{arith, ltb-true, lt-ltb, le-ltb}
use Rattle.terms.specs.Counted.{how_many}
use Rattle.terms.proofs.CountedLaws.{sum_at, how_many_bound, how_many_lt}
use Rattle.counting.specs.Rules.{Rules, Share, Lawful}

module _ (R : Rules) (c : Share R) (lawful : Lawful R c) where
  -- an entry weighs no more than the count of the node under which it hangs
  pub weight_counted : (p q : ℕ) → p < R.nodes → q < R.nodes → R.weight q (c.entry p) ≤ R.rc (c.entry q)
  weight_counted p q lp lq = omega (arith, sum_at R.nodes (λ x. R.weight q (c.entry x)) p lp, lawful.law_a q lq)

  -- a message adds no more than the count of its node
  pub air_counted : (s p : ℕ) → s < R.places → p < R.nodes → R.air p (c.message s) ≤ R.rc (c.entry p)
  air_counted s p ls lp = omega (arith, sum_at R.places (λ x. R.air p (c.message x)) s ls, lawful.law_a p lp)

  -- how many nodes have a lower rank
  abbrev pub height : ℕ → ℕ
  height p = how_many R.nodes (λ q. ltb (lawful.rank q) (lawful.rank p))

  -- one more at least than that of the node under which the entry hangs
  pub height_falls : (p q : ℕ) → p < R.nodes → q < R.nodes → 0 < R.weight q (c.entry p) → height q < height p
  height_falls p q lp lq hangs =
      let lower = lawful.falls p q lp lq hangs in
      how_many_lt R.nodes (λ x. ltb (lawful.rank x) (lawful.rank q)) (λ x. ltb (lawful.rank x) (lawful.rank p))
      (λ x lx below. let low = ltb-true (lawful.rank x) (lawful.rank q) below in lt-ltb (lawful.rank x) (lawful.rank p) (omega arith))
      q lq (le-ltb (lawful.rank q) (lawful.rank q) (omega arith)) (lt-ltb (lawful.rank q) (lawful.rank p) lower)

  -- a node isn't among those lower than itself
  pub height_bound : (p : ℕ) → p < R.nodes → height p < R.nodes
  height_bound p lp =
      let all = how_many_bound R.nodes (λ x. true) in
      let less = how_many_lt R.nodes (λ x. ltb (lawful.rank x) (lawful.rank p)) (λ x. true) (λ x lx below. refl) p lp
      (le-ltb (lawful.rank p) (lawful.rank p) (omega arith)) refl in omega arith
