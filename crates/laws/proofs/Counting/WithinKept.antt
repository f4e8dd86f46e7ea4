-- The limits of one object's counts hold in the fresh table, and a change raises them by one at most (PROOF-PLAN, "The field", 4).
-- Assumes nothing.
use Rattle.std.specs.Prelude.{◌≡◌, true, ℕ, ◌+◌, ◌≤◌, ◌<◌}
use Rattle.std.proofs.Math.Decide.{ℕ_discrete}
use Rattle.std.proofs.Common.{arith}
use Rattle.terms.proofs.CountedLaws.{sum_zero}
use Rattle.terms.specs.Limits.{NODES, OBJECTS, PLACES}
use Rattle.entry.specs.declared.Entry.{Entry}
use Rattle.entry.specs.Entry.{msg_ctr_of, rc_of}
use Rattle.counting.proofs.Kept.{measured}
use Rattle.table.specs.declared.Table.{Table}
use Rattle.table.specs.Fresh.{fresh_entry, fresh_message}
use Rattle.table.specs.Shape.{fits_table}
use Rattle.table.specs.Table.{fresh_table, entry_at, message_at}
use Rattle.laws.specs.Counting.Change.{Change}
use Rattle.laws.specs.Counting.Lawful.{rules, share}
use Rattle.laws.proofs.Counting.LawfulKept.{patch, effect}
use Rattle.laws.specs.Counting.Within.{Within}
use Rattle.laws.specs.LawB.{returns_in}
use Rattle.laws.specs.Sound.{above, below}

module _ {t u : Table} {o : ℕ} (change : Change t u o) (shape : fits_table t ≡ true) (lo : o < OBJECTS) where
  -- what grows by one at most at the node of the act, and elsewhere not at all
  grown : (f : Entry → ℕ) {n : ℕ} → f (entry_at u change.node o) ≤ f (entry_at t change.node o) + 1
      → ((p : ℕ) → p < NODES → f (entry_at t p o) ≤ n) → (p : ℕ) → p < NODES → f (entry_at u p o) ≤ n + 1
  grown f here within p lp = elim (ℕ_discrete p change.node) [
    | yes e ↦ rw e (omega (arith, within change.node change.node_number))
    | no ne ↦ rw (change.entries p lp ne) (omega (arith, within p lp))
  ]

  -- the limits rise by one
  pub within_kept : {n : ℕ} → Within n t o → Within (n + 1) u o
  within_kept within =
      let e = effect change shape lo in record {
        counts = grown rc_of e.counts within.counts;
        returns = omega (
          arith,
          measured (rules o) (share t o) (share u o) (patch change) (λ x. above (msg_ctr_of x)) (λ x. above (returns_in o x)),
          e.returns,
          within.returns,
        );
        owed = grown (λ x. below (msg_ctr_of x)) e.owed within.owed;
      }

-- nothing is counted in the fresh table
pub within_fresh : (o : ℕ) → o < OBJECTS → Within 0 fresh_table o
within_fresh o lo = record {
  counts = λ p lp. rw (fresh_entry p o lp lo) (omega arith);
  returns = omega (
    arith,
    sum_zero NODES (λ p. above (msg_ctr_of (entry_at fresh_table p o))) (λ p lp. rw (fresh_entry p o lp lo)),
    sum_zero PLACES (λ s. above (returns_in o (message_at fresh_table s))) (λ s ls. rw (fresh_message s ls)),
  );
  owed = λ p lp. rw (fresh_entry p o lp lo) (omega arith);
}
