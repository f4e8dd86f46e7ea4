-- The spot of an entry, whichever sort it is (document 01, "The field table"): a table with one entry changed has the new record there, and the old
-- ones at all other spots. What is said of it stands here, and why it holds in proofs/Changed.antt. Assumes nothing.
use Rattle.std.specs.Prelude.{List, ℕ, eqb, set, if◌then◌else◌}
use Rattle.terms.specs.Limits.{owner}
use Rattle.entry.specs.declared.Entry.{Entry}
use Rattle.heap.specs.declared.Roots.{Roots}
use Rattle.heap.specs.Heap.{roots_at}
use Rattle.table.specs.declared.Table.{Table}
use Rattle.image.specs.Records.{Record}
use Rattle.image.specs.Spots.{Spot, directory, remote}
use Rattle.image.specs.Writer.{directory_record, remote_record}

-- the roots of a node with one of them changed
abbrev pub roots_with : Table → ℕ → ℕ → ℕ → Roots
roots_with t p r x = record { at = set (roots_at t.heap p).at r x }

-- the spot of an entry: at the owner it is a directory, elsewhere a remote entry
abbrev pub entry_spot : ℕ → ℕ → Spot
entry_spot p o = if eqb p (owner o) then directory o else remote p o

-- the record of an entry there, or none
abbrev pub entry_record : ℕ → ℕ → Entry → List Record
entry_record p o e = if eqb p (owner o) then directory_record o e else remote_record p o e
