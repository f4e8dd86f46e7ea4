-- An act that leaves the weights of an entry alone, as most do: its count and its return count change by what the message gives or takes. What
-- is left to show of such an act speaks of the message alone. Assumes nothing.
use Rattle.std.specs.Prelude.{◌≡◌, ◌≢◌, ℕ, ◌+◌}
use Rattle.std.proofs.Common.{sym, ap, ◌∙◌, inl, arith}
use Rattle.terms.specs.Counted.{one}
use Rattle.counting.specs.Adding.{Adding}
use Rattle.counting.specs.Rules.{Rules, Balanced}

module _ (R : Rules) (less more : ℕ) (z : R.numbers.Number) where
  -- how return counts are added
  abbrev N : Adding
  N = R.numbers

  -- the entry: its count falls by less and rises by more, its return count rises by z
  pub record Turn (e e' : R.Entry) : Type 0 where
    pub counts : R.rc e' + less ≡ R.rc e + more
    pub weights : (q : ℕ) → R.weight q e' ≡ R.weight q e
    pub returns : R.returns e' ≡ R.numbers.plus (R.returns e) z

  -- the message: at node p the same is missing or left, elsewhere nothing, and the return counts agree
  pub record Passing (p : ℕ) (x x' : R.Message) : Type 0 where
    pub here : R.air p x + more ≡ R.air p x' + less
    pub there : (q : ℕ) → q ≢ p → R.air q x ≡ R.air q x'
    pub back : R.numbers.plus (R.numbers.plus z (R.carried x')) (R.of (one (R.home x)))
        ≡ R.numbers.plus (R.carried x) (R.of (one (R.home x')))

  -- together they are balanced
  pub turned : {p : ℕ} {e e' : R.Entry} {x x' : R.Message} → Turn e e' → Passing p x x' → Balanced R p e x e' x'
  turned {p} {e} {e'} {x} {x'} turn passing = record {
    here = omega (arith, turn.counts, turn.weights p, passing.here);
    there = λ q ne. omega (arith, turn.weights q, passing.there q ne);
    back =
        ap (λ n. N.plus (N.plus n (R.carried x')) (R.of (one (R.home x)))) turn.returns
        ∙ ap (λ n. N.plus n (R.of (one (R.home x)))) (N.assoc (R.returns e) z (R.carried x'))
        ∙ N.assoc (R.returns e) (N.plus z (R.carried x')) (R.of (one (R.home x)))
        ∙ ap (N.plus (R.returns e)) passing.back
        ∙ sym (N.assoc (R.returns e) (R.carried x) (R.of (one (R.home x'))));
    placed = inl (λ q hangs. omega (arith, turn.weights q));
  }
