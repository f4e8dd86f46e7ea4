-- Laws A, B and C of one object hold in the fresh table and are kept by every change; from those of all objects, laws A and B of the table
-- follow as document 01 states them (law C is in proofs/Counting/Chains.antt). Assumes nothing.
use Rattle.std.specs.Prelude.{◌≡◌, refl, true, ℕ, zero, suc, ◌+◌, ◌<◌, ℤ, pos, ◌+ℤ◌}
use Rattle.std.proofs.Common.{sym, ap, ap₂, ◌∙◌, arith}
use Rattle.terms.specs.Counted.{one}
use Rattle.terms.proofs.CountedLaws.{sum_zero}
use Rattle.terms.specs.Limits.{NODES, OBJECTS, PLACES}
use Rattle.entry.specs.Entry.{msg_ctr_of, rc_of, weight_under}
use Rattle.counting.specs.Adding as adding
use Rattle.counting.specs.Adding.{whole, total_nothing}
use Rattle.counting.specs.Rules.{Patch}
use Rattle.counting.proofs.Kept.{kept}
use Rattle.table.specs.declared.Table.{Table}
use Rattle.table.specs.Fresh.{fresh_entry, fresh_message}
use Rattle.table.specs.Shape.{fits_table}
use Rattle.table.specs.ShapeLaws.{shaped}
use Rattle.table.specs.Table.{fresh_table, entry_at, message_at}
use Rattle.laws.specs.Counting.Change.{Change}
use Rattle.laws.proofs.Counting.Effect.{Effect}
use Rattle.laws.proofs.Counting.Effects.{act_effect}
use Rattle.laws.specs.Counting.Lawful.{rules, share, Lawful}
use Rattle.laws.specs.LawA.{LawA, air_under}
use Rattle.laws.specs.LawB.{LawB, is_homeward, returns_in, total_from}

-- ---- a change

module _ {t u : Table} {o : ℕ} (change : Change t u o) where
  -- as the counting sees it
  abbrev pub patch : Patch (rules o) (share t o) (share u o)
  patch = record {
    node = change.node;
    node_number = change.node_number;
    place = change.place;
    place_number = change.place_number;
    entries = change.entries;
    messages = change.messages;
  }

  -- what its act does to the counts
  pub effect : fits_table t ≡ true → o < OBJECTS
      → Effect o change.node (entry_at t change.node o) (message_at t change.place) (entry_at u change.node o) (message_at u change.place)
  effect shape lo =
      act_effect o change.node change.act
      ((shaped t shape).entries change.node o change.node_number lo)
      ((shaped t shape).messages change.place change.place_number)

  -- the laws are kept
  pub lawful_kept : fits_table t ≡ true → o < OBJECTS → Lawful t o → Lawful u o
  lawful_kept shape lo lawful = kept (rules o) (share t o) (share u o) patch lawful (effect shape lo).balanced

-- ---- the fresh table

-- no entry and no message, so every count is nought
pub lawful_fresh : (o : ℕ) → o < OBJECTS → Lawful fresh_table o
lawful_fresh o lo =
    let none : (p q : ℕ) → p < NODES → weight_under q (entry_at fresh_table p o) ≡ 0 = λ p q lp. ap (weight_under q) (fresh_entry p o lp lo) in
    record {
      law_a = λ p lp.
          ap rc_of (fresh_entry p o lp lo)
          ∙ sym (ap₂ ◌+◌
          (sum_zero NODES (λ q. weight_under p (entry_at fresh_table q o)) (λ q lq. none q p lq))
          (sum_zero PLACES (λ s. air_under p o (message_at fresh_table s)) (λ s ls. ap (air_under p o) (fresh_message s ls))));
      law_b =
          ap₂ ◌+ℤ◌
          (total_nothing whole NODES (λ p. msg_ctr_of (entry_at fresh_table p o)) (λ p lp. ap msg_ctr_of (fresh_entry p o lp lo)))
          (total_nothing whole PLACES (λ s. returns_in o (message_at fresh_table s)) (λ s ls. ap (returns_in o) (fresh_message s ls)))
          ∙ sym (ap pos
          (sum_zero PLACES (λ s. one (is_homeward o (message_at fresh_table s))) (λ s ls. ap (λ x. one (is_homeward o x)) (fresh_message s ls))));
      rank = λ p. 0;
      falls = λ p q lp lq hangs. absurd (omega (arith, none p q lp));
    }

-- ---- all objects

-- a sum of law B is one of the counting
pub total_is : (k n : ℕ) (f : ℕ → ℤ) → total_from k n f ≡ adding.total_from whole k n f
unfolding total_from adding.total_from
total_is k zero f = refl
total_is k (suc n) f = ap (λ (z : ℤ). f k +ℤ z) (total_is (suc k) n f)

module _ (t : Table) (lawful : (o : ℕ) → o < OBJECTS → Lawful t o) where
  -- law A is that of each object
  pub law_a : LawA t
  law_a p o lp lo = (lawful o lo).law_a p lp

  -- and so is law B
  pub law_b : LawB t
  law_b o lo = ap₂ ◌+ℤ◌ (total_is 0 NODES _) (total_is 0 PLACES _) ∙ (lawful o lo).law_b
