-- RECEIVE s r: the reference in s reaches its node, into the empty root r of that node (document 01, RECEIVE; document 000, section 4.5).
-- Definitions only; assumes nothing.
use Rattle.std.specs.Prelude.{Bool, true, not, [], ◌∷◌, ℕ, eqb, if◌then◌else◌}
use Rattle.terms.specs.Choose.{◌when◌, ◌or◌}
use Rattle.terms.specs.Numbers.{NOMSG, ROOT, TORN}
use Rattle.entry.specs.declared.Entry.{Entry}
use Rattle.entry.specs.declared.Entry.TheVariants.{Absent, AtOwner, Elsewhere}
use Rattle.entry.specs.Entry.{none, weight}
use Rattle.entry.specs.AtNode.{received, refuses}
use Rattle.heap.specs.Heap.{root_at, is_none, with_root}
use Rattle.table.specs.declared.Table.{Table}
use Rattle.table.specs.declared.Message.{Message}
use Rattle.table.specs.declared.Message.TheVariants.{Empty, Reference, Decrement}
use Rattle.table.specs.Table.{entry_at, message_at, with_entry, with_heap, with_message}
use Rattle.step.specs.Deed.{Deed}
use Rattle.step.specs.Deed.{CameHome, Made, Merged, Answered}
use Rattle.step.specs.Outcome.{Rule, did, refused}
use Rattle.step.specs.Send.{is_dead_own}

-- at the owner, the object not live or no directory; or a count would leave its range
abbrev pub receive_torn : Table → ℕ → ℕ → ℕ → Bool
receive_torn t from to o = is_dead_own t to o or refuses (received from to o (entry_at t to o))

-- what is left in place s: a decrement to a sender that isn't the Parent, else nothing
abbrev pub reply : ℕ → ℕ → ℕ → Entry → Message
reply from to o Absent = Empty
reply from to o (AtOwner d) = Empty
reply from to o (Elsewhere e) = if eqb e.parent from then Empty else Decrement to from o none (weight 1)

-- what the receipt was, by the entry that it found
abbrev pub receipt : ℕ → ℕ → Entry → Deed
receipt s from Absent = Made
receipt s from (AtOwner d) = CameHome
receipt s from (Elsewhere e) = if eqb e.parent from then Merged else Answered s

-- the reference leaves place s, the receiver's entry takes it, and root r holds it
abbrev pub with_received : Table → ℕ → ℕ → ℕ → ℕ → ℕ → Table
with_received t s r from to o =
    with_heap
    (with_entry (with_message t s (reply from to o (entry_at t to o))) to o (received from to o (entry_at t to o)).entry)
    (with_root t.heap to r o)

-- RECEIVE of what stands in place s
unfoldable pub receive_of : Table → ℕ → ℕ → Message → Rule
receive_of t s r Empty = record { refusals = (NOMSG when true) ∷ []; effect = refused t NOMSG }
receive_of t s r (Decrement from to o m n) = record { refusals = (NOMSG when true) ∷ []; effect = refused t NOMSG }
receive_of t s r (Reference from to o) = record {
  refusals =
      (ROOT when not (is_none (root_at t.heap to r)))
      ∷ (TORN when receive_torn t from to o)
      ∷ [];
  effect = did (receipt s from (entry_at t to o)) (with_received t s r from to o);
}

abbrev pub receive : Table → ℕ → ℕ → Rule
receive t s r = receive_of t s r (message_at t s)
