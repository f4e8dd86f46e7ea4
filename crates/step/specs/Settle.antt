-- SETTLE s: the decrement in s reaches its node: RC - n, MsgCtr + m there (document 01, SETTLE). Definitions only; assumes nothing.
use Rattle.std.specs.Prelude.{true, [], ◌∷◌, ℕ}
use Rattle.terms.specs.Choose.{◌when◌}
use Rattle.terms.specs.Numbers.{NOMSG, TORN}
use Rattle.entry.specs.declared.ReturnCount.{ReturnCount}
use Rattle.entry.specs.declared.Weight.{Weight}
use Rattle.entry.specs.AtNode.{settled, refuses}
use Rattle.table.specs.declared.Table.{Table}
use Rattle.table.specs.declared.Message.{Message}
use Rattle.table.specs.declared.Message.TheVariants.{Empty, Reference, Decrement}
use Rattle.table.specs.Table.{entry_at, message_at, with_entry, with_message}
use Rattle.step.specs.Deed.{Settled}
use Rattle.step.specs.Outcome.{Rule, did, refused}

-- the decrement leaves place s and the receiver's entry takes its numbers
abbrev pub with_settled : Table → ℕ → ℕ → ℕ → ReturnCount → Weight → Table
with_settled t s to o m n = with_entry (with_message t s Empty) to o (settled m n (entry_at t to o)).entry

-- SETTLE of what stands in place s
unfoldable pub settle_of : Table → ℕ → Message → Rule
settle_of t s Empty = record { refusals = (NOMSG when true) ∷ []; effect = refused t NOMSG }
settle_of t s (Reference from to o) = record { refusals = (NOMSG when true) ∷ []; effect = refused t NOMSG }
settle_of t s (Decrement from to o m n) = record {
  refusals = (TORN when refuses (settled m n (entry_at t to o))) ∷ [];
  effect = did Settled (with_settled t s to o m n);
}

abbrev pub settle : Table → ℕ → Rule
settle t s = settle_of t s (message_at t s)
