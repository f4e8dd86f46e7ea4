-- The counting's part of Sound, for a whole table: laws A, B and C and the limits of the counts. It holds in the fresh table and is kept by an
-- event that is a change of every object. Assumes nothing.
use Rattle.std.specs.Prelude.{◌≡◌, true, ℕ, ◌+◌, ◌≤◌, ◌<◌}
use Rattle.std.proofs.Common.{subst, sym}
use Rattle.terms.specs.Limits.{NODES, OBJECTS}
use Rattle.entry.specs.Entry.{msg_ctr_of, rc_of}
use Rattle.table.specs.declared.Table.{Table}
use Rattle.table.specs.Shape.{fits_table}
use Rattle.table.specs.Table.{fresh_table, entry_at}
use Rattle.laws.proofs.Counting.Chains.{law_c, lawful_table}
use Rattle.laws.specs.Counting.Change.{Change}
use Rattle.laws.specs.Counting.Lawful.{Lawful}
use Rattle.laws.proofs.Counting.LawfulKept.{law_a, law_b, lawful_fresh, lawful_kept}
use Rattle.laws.specs.Counting.Within.{Within}
use Rattle.laws.proofs.Counting.WithinKept.{within_fresh, within_kept}
use Rattle.laws.specs.LawA.{LawA}
use Rattle.laws.specs.LawB.{LawB}
use Rattle.laws.specs.LawC.{LawC}
use Rattle.laws.specs.Sound.{below, returns_above}

-- as Sound has it
pub record Counted (t : Table) : Type 0 where
  pub law_a : LawA t
  pub law_b : LawB t
  pub law_c : LawC t
  pub counts : (p o : ℕ) → p < NODES → o < OBJECTS → rc_of (entry_at t p o) ≤ t.count
  pub returns : (o : ℕ) → o < OBJECTS → returns_above t o ≤ t.count
  pub owed : (p o : ℕ) → p < NODES → o < OBJECTS → below (msg_ctr_of (entry_at t p o)) ≤ t.count

module _ (t : Table) (shape : fits_table t ≡ true) where
  -- each object is lawful
  pub counted_lawful : Counted t → (o : ℕ) → o < OBJECTS → Lawful t o
  counted_lawful counted = lawful_table t shape counted.law_a counted.law_b counted.law_c

  -- and within the event count
  pub counted_within : Counted t → (o : ℕ) → o < OBJECTS → Within t.count t o
  counted_within counted o lo = record {
    counts = λ p lp. counted.counts p o lp lo;
    returns = counted.returns o lo;
    owed = λ p lp. counted.owed p o lp lo;
  }

  -- and the other way
  pub all_counted : ((o : ℕ) → o < OBJECTS → Lawful t o) → ((o : ℕ) → o < OBJECTS → Within t.count t o) → Counted t
  all_counted lawful within = record {
    law_a = law_a t lawful;
    law_b = law_b t lawful;
    law_c = law_c t shape lawful;
    counts = λ p o lp lo. (within o lo).counts p lp;
    returns = λ o lo. (within o lo).returns;
    owed = λ p o lp lo. (within o lo).owed p lp;
  }

-- an event that changes every object by one act, and adds one to the count
pub counted_kept : (t u : Table) → fits_table t ≡ true → fits_table u ≡ true → u.count ≡ t.count + 1 → ((o : ℕ) → o < OBJECTS → Change t u o)
    → Counted t → Counted u
counted_kept t u before after one_more change counted =
    all_counted u after
    (λ o lo. lawful_kept (change o lo) before lo (counted_lawful t before counted o lo))
    (λ o lo. subst (λ (n : ℕ). Within n u o) (sym one_more) (within_kept (change o lo) before lo (counted_within t before counted o lo)))

-- nothing is counted in the fresh table
pub counted_fresh : fits_table fresh_table ≡ true → Counted fresh_table
counted_fresh shape = all_counted fresh_table shape lawful_fresh within_fresh
