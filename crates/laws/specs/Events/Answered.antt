-- What an accepted event tells of its refusals: none of them applies, for each has a number and "accepted" is none. And what a refused event
-- leaves: the table as it was. What is said of it stands here, and why it holds in proofs/Events/Answered.antt. Assumes nothing.
use Rattle.std.specs.Prelude.{◌+◌}
use Rattle.table.specs.declared.Table.{Table}
use Rattle.table.specs.Table.{with_count}

-- ---- an accepted event

-- the table after an accepted event that makes u of t: u, and one event more
abbrev pub counting : Table → Table → Table
counting t u = with_count u (t.count + 1)
