-- The acts that leave an entry's weight alone, as far as the message is concerned: what it gives to the laws of its object or takes from them
-- (PROOF-PLAN, "Laws A and B, act by act"). Assumes nothing.
use Rattle.std.specs.Prelude.{◌≡◌, refl, ◌≢◌, true, false, ℕ, ◌+◌, ℤ, pos, negsuc, ◌+ℤ◌}
use Rattle.std.proofs.Common.{sym, ap, ◌∙◌, arith, eq-eqb, ne_eqb}
use Rattle.std.proofs.Math.IntN.{+ℤ_idl, +ℤ_idr}
use Rattle.terms.specs.Counted.{one}
use Rattle.terms.specs.Limits.{owner}
use Rattle.entry.specs.declared.ReturnCount.{ReturnCount}
use Rattle.entry.specs.declared.Weight.{Weight}
use Rattle.entry.specs.Entry.{none, weight}
use Rattle.entry.specs.Fits.{fits_returns}
use Rattle.entry.specs.FitsLaws.{natural_returns}
use Rattle.table.specs.declared.Message.{Message}
use Rattle.table.specs.declared.Message.TheVariants.{Empty, Reference, Decrement}
use Rattle.laws.specs.Counting.Change.{is_of}
use Rattle.laws.proofs.Counting.Counts.{away_air, away_home, home_air, home_home, decrement_air, decrement_carried, foreign}
use Rattle.laws.proofs.Counting.Effect.{Passes}
use Rattle.laws.specs.LawA.{air_under}
use Rattle.laws.specs.LawB.{returns_in, is_homeward}

module _ (o p : ℕ) where
  -- neither is of this object
  pub passes_foreign : (x y : Message) → is_of o x ≡ false → is_of o y ≡ false → Passes o p 0 0 (pos 0) x y
  passes_foreign x y ex ey =
      let a = foreign o x ex in
      let b = foreign o y ey in record {
        passing = record {
          here = rw (a.air p, b.air p);
          there = λ q ne. rw (a.air q, b.air q);
          back = rw (a.carried, a.home, b.carried, b.home);
        };
        slight = record { few = omega arith; risen = rw b.carried (omega arith); fallen = omega arith };
      }

  -- it stays
  pub passes_still : (x : Message) → Passes o p 0 0 (pos 0) x x
  passes_still x = record {
    passing = record {
      here = refl;
      there = λ q ne. refl;
      back = ap (λ (z : ℤ). z +ℤ pos (one (is_homeward o x))) (+ℤ_idl (returns_in o x));
    };
    slight = omega arith;
  }

  module _ (q : ℕ) where
    -- a reference goes to another node than the owner
    pub passes_sent : q ≢ owner o → Passes o p 0 1 (pos 0) Empty (Reference p q o)
    passes_sent away = record {
      passing = record {
        here = rw (away_air o p q away p, eq-eqb p p refl);
        there = λ x ne. rw (away_air o p q away x, ne_eqb p x (λ e. ne (sym e)));
        back = rw (away_home o p q away);
      };
      slight = omega arith;
    }

    -- a reference goes home
    pub passes_home : q ≡ owner o → Passes o p 0 0 (pos 1) Empty (Reference p q o)
    passes_home home = record {
      passing = record {
        here = rw (home_air o p q home p);
        there = λ x ne. rw (home_air o p q home x);
        back = rw (home_home o p q home);
      };
      slight = omega arith;
    }

    -- a reference came home
    pub passes_came : p ≡ owner o → Passes o p 0 0 (negsuc 0) (Reference q p o) Empty
    passes_came home = record {
      passing = record {
        here = rw (home_air o q p home p);
        there = λ x ne. rw (home_air o q p home x);
        back = rw (home_home o q p home);
      };
      slight = omega arith;
    }

    -- a reference came, and a decrement answers it
    pub passes_answered : p ≢ owner o → Passes o p 0 0 (pos 0) (Reference q p o) (Decrement p q o none (weight 1))
    passes_answered away = record {
      passing = record {
        here = ap (λ (n : ℕ). n + 0) (air p);
        there = λ x ne. air x;
        back = rw (decrement_carried o p q none (weight 1), away_home o q p away);
      };
      slight = record { few = omega arith; risen = rw (decrement_carried o p q none (weight 1)) (omega arith); fallen = omega arith };
    }
      where
        air : (x : ℕ) → air_under x o (Reference q p o) ≡ air_under x o (Decrement p q o none (weight 1))
        air x = away_air o q p away x ∙ sym (decrement_air o p q none (weight 1) x)

    -- a decrement came
    pub passes_settled : (m : ReturnCount) (n : Weight) → fits_returns m ≡ true → Passes o p n.0 0 m.0 (Decrement q p o m n) Empty
    passes_settled m n natural = record {
      passing = record {
        here = rw (decrement_air o q p m n p, eq-eqb p p refl) (omega arith);
        there = λ x ne. rw (decrement_air o q p m n x, ne_eqb p x (λ e. ne (sym e)));
        back = rw (decrement_carried o q p m n) (+ℤ_idr (m.0 +ℤ pos 0));
      };
      slight = record {
        few = omega arith;
        risen = rw (decrement_carried o q p m n) (omega arith);
        fallen = rw (natural_returns m natural) (omega arith);
      };
    }
