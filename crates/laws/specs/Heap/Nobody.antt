-- The bridge from the counting to the heap (PROOF-PLAN, "The theorem that answers the insurer"): where the directory of an object is clear, nobody
-- else has it. Here it is stated, and turned round: whoever has it keeps the directory from being clear. The heap's laws take the bridge as a
-- hypothesis, so that they hold for any counting that gives it. What is said of it stands here, and why it holds in proofs/Heap/Nobody.antt.
-- Assumes nothing.
use Rattle.std.specs.Prelude.{◌≡◌, ◌≢◌, true, false, ℕ, ◌<◌}
use Rattle.terms.specs.Limits.{NODES, PLACES, owner}
use Rattle.entry.specs.Entry.{is_absent}
use Rattle.table.specs.declared.Table.{Table}
use Rattle.table.specs.Table.{entry_at, message_at}
use Rattle.laws.specs.Counting.Change.{is_of}

-- no node but the owner has an entry of o, and no message of o is in the air
pub record Nobody (t : Table) (o : ℕ) : Type 0 where
  pub entries : (p : ℕ) → p < NODES → p ≢ owner o → is_absent (entry_at t p o) ≡ true
  pub messages : (s : ℕ) → s < PLACES → is_of o (message_at t s) ≡ false
