-- The bridge from the counts to the heap: the directory of an object is clear exactly where no remote entry, no reference in the air and no
-- decrement in the air of it exists (document 000, theorem 4.1; PROOF-PLAN, "The theorem that answers the insurer"). Assumes nothing.
use Rattle.std.specs.Prelude.{◌≡◌, ℕ, zero, suc, ◌<◌}
use Rattle.std.proofs.Common.{sym, ap, ap₂, ◌∙◌, ⊎_elim, arith}
use Rattle.std.proofs.Math.Decide.{ℕ_discrete}
use Rattle.terms.specs.Counted.{one}
use Rattle.terms.proofs.CountedLaws.{sum_zero, how_many_bound, how_many_none}
use Rattle.counting.specs.Adding.{total_only, total_nothing}
use Rattle.counting.specs.Rules.{Rules, Share, returned, homeward, Lawful, Shaped, Hangs, Clear, Nobody}
use Rattle.counting.proofs.Under.{weight_counted, air_counted}

module _ (R : Rules) (c : Share R) (lawful : Lawful R c) (shaped : Shaped R c) where
  -- ---- clear means nobody

  module _ (clear : R.rc (c.entry R.owner) ≡ 0) where
    -- what an entry hangs under isn't the owner, and hangs itself under a node of lower rank: there is none of the lowest
    nobody_hangs : (n p : ℕ) → p < R.nodes → lawful.rank p < n → Hangs R c p → ⊥
    nobody_hangs zero p lp low hangs = omega arith
    nobody_hangs (suc n) p lp low (q, lq, hangs) =
        let counted = weight_counted R c lawful p q lp lq in
        elim (ℕ_discrete q R.owner) [
          | yes e ↦ let none = ap (λ x. R.rc (c.entry x)) e in omega arith
          | no ne ↦ ⊎_elim
              (nobody_hangs n q lq (omega (arith, lawful.falls p q lp lq hangs)))
              (λ none. omega (arith, none.0))
              (shaped.away q lq ne)
        ]

    -- no entry hangs anywhere
    pub hangs_nowhere : (p : ℕ) → p < R.nodes → Hangs R c p → ⊥
    hangs_nowhere p lp = nobody_hangs (suc (lawful.rank p)) p lp (omega arith)

    -- so no node counts anything
    counts_nothing : (p : ℕ) → p < R.nodes → R.rc (c.entry p) ≡ 0
    counts_nothing p lp = elim (ℕ_discrete p R.owner) [
      | yes e ↦ rw e clear
      | no ne ↦ ⊎_elim (λ hangs. absurd (hangs_nowhere p lp hangs)) (λ none. none.0) (shaped.away p lp ne)
    ]

    -- and nothing in the air counts
    pub air_nothing : (s p : ℕ) → s < R.places → p < R.nodes → R.air p (c.message s) ≡ 0
    air_nothing s p ls lp = omega (arith, air_counted R c lawful s p ls lp, counts_nothing p lp)

  -- where nothing hangs and nothing in the air counts, all return counts are the directory's
  module _ (no_entry : (p : ℕ) → p < R.nodes → Hangs R c p → ⊥)
      (no_air : (s p : ℕ) → s < R.places → p < R.nodes → R.air p (c.message s) ≡ 0) where
    pub directory_only : returned R c ≡ R.returns (c.entry R.owner)
    directory_only =
        ap₂ R.numbers.plus
        (total_only R.numbers R.nodes (λ p. R.returns (c.entry p)) R.owner shaped.owner_number
        (λ p lp ne. ⊎_elim (λ hangs. absurd (no_entry p lp hangs)) (λ none. none.1) (shaped.away p lp ne)))
        (total_nothing R.numbers R.places (λ s. R.carried (c.message s))
        (λ s ls. ⊎_elim (λ some. absurd (omega (arith, some.2, no_air s some.0 ls some.1))) (λ none. none) (shaped.weighty s ls)))
        ∙ R.numbers.unit _

  -- a clear directory: nobody else has the object
  pub clear_nobody : Clear R c → Nobody R c
  clear_nobody clear =
      let none = hangs_nowhere clear.no_count in
      let air = air_nothing clear.no_count in
      let home = sym lawful.law_b ∙ directory_only none air ∙ clear.no_return in
      record {
        no_entry = λ p q lp lq. elim (ℕ_discrete (R.weight q (c.entry p)) 0) [
          | yes e ↦ e
          | no ne ↦ absurd (none p lp (q, lq, omega arith))
        ];
        no_air = air;
        no_home = how_many_none R.places (λ s. R.home (c.message s))
            (R.of_some (homeward R c) (how_many_bound R.places (λ s. R.home (c.message s))) home);
      }

  -- ---- nobody means clear

  -- nobody else has the object: its directory is clear
  pub nobody_clear : Nobody R c → Clear R c
  nobody_clear nobody = record {
    no_count = omega (
      arith,
      lawful.law_a R.owner shaped.owner_number,
      sum_zero R.nodes (λ q. R.weight R.owner (c.entry q)) (λ q lq. nobody.no_entry q R.owner lq shaped.owner_number),
      sum_zero R.places (λ s. R.air R.owner (c.message s)) (λ s ls. nobody.no_air s R.owner ls shaped.owner_number),
    );
    no_return =
        sym (directory_only (λ p lp hangs. absurd (omega (arith, hangs.2, nobody.no_entry p hangs.0 lp hangs.1))) nobody.no_air)
        ∙ lawful.law_b
        ∙ ap R.of (sum_zero R.places (λ s. one (R.home (c.message s))) (λ s ls. ap one (nobody.no_home s ls)))
        ∙ R.of_none;
  }
