-- Law A: RC of each entry is what hangs under it (document 01, law A; where document 000, section 4.1, differs, A decides).
-- Definitions only; assumes nothing.
use Rattle.std.specs.Prelude.{◌≡◌, not, ℕ, ◌+◌, ◌<◌, eqb, if◌then◌else◌}
use Rattle.terms.specs.Choose.{◌and◌}
use Rattle.terms.specs.Counted.{one, sum}
use Rattle.terms.specs.Limits.{NODES, OBJECTS, PLACES, owner}
use Rattle.entry.specs.Entry.{rc_of, weight_under}
use Rattle.table.specs.declared.Message.{Message}
use Rattle.table.specs.declared.Message.TheVariants.{Empty, Reference, Decrement}
use Rattle.table.specs.declared.Table.{Table}
use Rattle.table.specs.Table.{entry_at, message_at}

-- what a message adds to the count of object o at node p: a reference from p to a node that isn't the owner, or n of a decrement to p
abbrev pub air_under : ℕ → ℕ → Message → ℕ
air_under p o Empty = 0
air_under p o (Reference from to x) = one (eqb x o and eqb from p and not (eqb to (owner o)))
air_under p o (Decrement from to x m n) = if eqb x o and eqb to p then n.0 else 0

-- RefWeights of the remote entries whose Parent is p, and what is in the air
abbrev pub inflow : Table → ℕ → ℕ → ℕ
inflow t p o = sum NODES (λ q. weight_under p (entry_at t q o)) + sum PLACES (λ s. air_under p o (message_at t s))

-- for all nodes and objects; where no entry stands RC counts as 0, and so must the sum
abbrev pub LawA : Table → Type 0
LawA t = (p o : ℕ) → p < NODES → o < OBJECTS → rc_of (entry_at t p o) ≡ inflow t p o
