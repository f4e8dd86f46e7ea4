-- The counts of one object stay within a limit that rises with each event, and so within the shape's ranges (PROOF-PLAN, "The field", 4).
-- Definitions only; assumes nothing.
use Rattle.std.specs.Prelude.{ℕ, ◌≤◌, ◌<◌}
use Rattle.terms.specs.Limits.{NODES}
use Rattle.entry.specs.Entry.{msg_ctr_of, rc_of}
use Rattle.table.specs.declared.Table.{Table}
use Rattle.table.specs.Table.{entry_at}
use Rattle.laws.specs.Sound.{below, returns_above}

-- no RC of object o is above n; its return counts above zero add up to no more; and none is further below zero
pub record Within (n : ℕ) (t : Table) (o : ℕ) : Type 0 where
  pub counts : (p : ℕ) → p < NODES → rc_of (entry_at t p o) ≤ n
  pub returns : returns_above t o ≤ n
  pub owed : (p : ℕ) → p < NODES → below (msg_ctr_of (entry_at t p o)) ≤ n
