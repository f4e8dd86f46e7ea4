-- Where COLLECT starts and what it reclaims (document 01, COLLECT), in propositions: the walk starts from the roots of the node and from its
-- objects whose directory is not clear; reclaimed is what is the node's own, live and not reached. What is said of it stands here, and why it holds
-- in proofs/Heap/Starts.antt. Assumes nothing.
use Rattle.std.specs.Prelude.{◌≡◌, ℕ}
use Rattle.std.proofs.Math.Bool.{false}
use Rattle.terms.specs.Limits.{owner}
use Rattle.entry.specs.Entry.{is_clear}
use Rattle.table.specs.declared.Table.{Table}
use Rattle.table.specs.Table.{entry_at}

-- ---- the starts

-- o is an object of p whose directory has RC above 0 or MsgCtr not 0
pub record Counted (t : Table) (p o : ℕ) : Type 0 where
  pub own : owner o ≡ p
  pub unclear : is_clear (entry_at t p o) ≡ false
