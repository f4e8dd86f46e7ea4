-- A balanced change of one entry and one message keeps the laws of an object (PROOF-PLAN, "Laws A and B, act by act" and "Law C").
-- Assumes nothing.
use Rattle.std.specs.Prelude.{◌≡◌, ◌≢◌, ℕ, suc, ◌+◌, ◌<◌, eqb, if◌then◌else◌}
use Rattle.std.proofs.Common.{sym, ap, ap₂, ◌∙◌, inl, inr, arith, eq-eqb, ne_eqb}
use Rattle.std.proofs.Math.Decide.{ℕ_discrete}
use Rattle.terms.specs.Counted.{one, sum}
use Rattle.terms.proofs.CountedLaws.{sum_at}
use Rattle.counting.specs.Adding.{Adding, pairs, swap, total_replaced, sum_replaced}
use Rattle.counting.specs.Rules.{Rules, Share, inflow, returned, homeward, Lawful, Patch, Placed, Balanced}

module _ (R : Rules) (c d : Share R) (patch : Patch R c d) where
  -- how return counts are added
  abbrev N : Adding
  N = R.numbers

  -- what entries and messages add to any count: the new sum and what was there before are the old sum and what is there now
  pub measured : (f : R.Entry → ℕ) (g : R.Message → ℕ)
      → sum R.nodes (λ p. f (d.entry p)) + sum R.places (λ s. g (d.message s)) + (f (c.entry patch.node) + g (c.message patch.place))
      ≡ sum R.nodes (λ p. f (c.entry p)) + sum R.places (λ s. g (c.message s)) + (f (d.entry patch.node) + g (d.message patch.place))
  measured f g =
      let entries = sum_replaced R.nodes (λ p. f (c.entry p)) (λ p. f (d.entry p)) patch.node patch.node_number
      (λ p lp ne. ap f (patch.entries p lp ne)) in
      let messages = sum_replaced R.places (λ s. g (c.message s)) (λ s. g (d.message s)) patch.place patch.place_number
      (λ s ls ne. ap g (patch.messages s ls ne)) in omega arith

  -- the same of return counts
  returned_measured : N.plus (returned R d) (N.plus (R.returns (c.entry patch.node)) (R.carried (c.message patch.place)))
      ≡ N.plus (returned R c) (N.plus (R.returns (d.entry patch.node)) (R.carried (d.message patch.place)))
  returned_measured =
      pairs N _ _ _ _
      ∙ ap₂ N.plus
      (total_replaced N R.nodes (λ p. R.returns (c.entry p)) (λ p. R.returns (d.entry p)) patch.node patch.node_number
      (λ p lp ne. ap R.returns (patch.entries p lp ne)))
      (total_replaced N R.places (λ s. R.carried (c.message s)) (λ s. R.carried (d.message s)) patch.place patch.place_number
      (λ s ls ne. ap R.carried (patch.messages s ls ne)))
      ∙ pairs N _ _ _ _

  -- and of the references on their way home
  homeward_measured : N.plus (R.of (homeward R d)) (R.of (one (R.home (c.message patch.place))))
      ≡ N.plus (R.of (homeward R c)) (R.of (one (R.home (d.message patch.place))))
  homeward_measured =
      let came : R.Message → ℕ = λ x. one (R.home x) in
      let replaced = sum_replaced R.places (λ s. came (c.message s)) (λ s. came (d.message s)) patch.place patch.place_number
      (λ s ls ne. ap came (patch.messages s ls ne)) in
      sym (R.of_more _ _) ∙ ap R.of replaced ∙ R.of_more _ _

  -- the act is balanced
  abbrev pub Fair : Type 0
  Fair = Balanced R patch.node (c.entry patch.node) (c.message patch.place) (d.entry patch.node) (d.message patch.place)

  module _ (lawful : Lawful R c) (balanced : Fair) where
    -- law A
    kept_a : (p : ℕ) → p < R.nodes → R.rc (d.entry p) ≡ inflow R d p
    kept_a p lp = elim (ℕ_discrete p patch.node) [
      | yes e ↦ rw e (omega (
        arith,
        measured (R.weight patch.node) (R.air patch.node),
        lawful.law_a patch.node patch.node_number,
        balanced.here,
      ))
      | no ne ↦
          let same = ap R.rc (patch.entries p lp ne) in
          omega (arith, measured (R.weight p) (R.air p), lawful.law_a p lp, balanced.there p ne)
    ]

    -- law B: what is taken off both sides is what was there before
    kept_b : returned R d ≡ R.of (homeward R d)
    kept_b =
        let gone = N.plus (R.returns (c.entry patch.node)) (R.carried (c.message patch.place)) in
        let came = N.plus (R.returns (d.entry patch.node)) (R.carried (d.message patch.place)) in
        let was = R.of (one (R.home (c.message patch.place))) in
        let is = R.of (one (R.home (d.message patch.place))) in
        N.cancel (returned R d) (R.of (homeward R d)) (N.plus gone was)
        (sym (N.assoc (returned R d) gone was)
        ∙ ap (λ x. N.plus x was) returned_measured
        ∙ N.assoc (returned R c) came was
        ∙ ap₂ N.plus lawful.law_b balanced.back
        ∙ swap N (R.of (homeward R c)) gone is
        ∙ ap (N.plus gone) (sym homeward_measured)
        ∙ swap N gone (R.of (homeward R d)) was)

    -- the rank of a new entry, one above that of the node under which it hangs
    abbrev raised : ℕ → ℕ → ℕ
    raised q p = if eqb p patch.node then suc (lawful.rank q) else lawful.rank p

    -- an entry that is as before hangs as before
    old_falls : (p q : ℕ) → p < R.nodes → q < R.nodes → p ≢ patch.node → 0 < R.weight q (d.entry p) → lawful.rank q < lawful.rank p
    old_falls p q lp lq ne hangs = lawful.falls p q lp lq (rw (patch.entries p lp ne) at hangs)

    -- law C: the rank stays, or the new entry is put above the one under which it hangs, which is not its own: nothing hangs under it yet
    kept_c : Placed R patch.node (c.entry patch.node) (d.entry patch.node)
        → (rank : ℕ → ℕ) × ((p q : ℕ) → p < R.nodes → q < R.nodes → 0 < R.weight q (d.entry p) → rank q < rank p)
    kept_c (inl before) = (
      lawful.rank,
      λ p q lp lq hangs. elim (ℕ_discrete p patch.node) [
        | yes e ↦ lawful.falls p q lp lq (rw e (before q (rw e at hangs)))
        | no ne ↦ old_falls p q lp lq ne hangs
      ],
    )
    kept_c (inr (empty, under, other, only)) = (
      raised under,
      λ p q lp lq hangs.
          let apart : q ≢ patch.node = λ e.
          let part = sum_at R.nodes (λ x. R.weight patch.node (d.entry x)) p lp in
          let hung : 0 < R.weight patch.node (d.entry p) = rw e at hangs in
          omega (arith, kept_a patch.node patch.node_number) in
          let low : raised under q ≡ lawful.rank q = rw (ne_eqb q patch.node apart) in
          elim (ℕ_discrete p patch.node) [
            | yes e ↦
                let high : raised under p ≡ suc (lawful.rank under) = rw (eq-eqb p patch.node e) in
                let here : q ≡ under = only q (rw e at hangs) in
                let same = ap lawful.rank here in omega arith
            | no ne ↦
                let high : raised under p ≡ lawful.rank p = rw (ne_eqb p patch.node ne) in
                omega (arith, old_falls p q lp lq ne hangs)
          ],
    )

    -- the laws are kept
    pub kept : Lawful R d
    kept = let ranked = kept_c balanced.placed in record { law_a = kept_a; law_b = kept_b; rank = ranked.0; falls = ranked.1 }
