-- DROP P o: the entry of o at P is deleted; a remote one sends its MsgCtr and RefWeight to its Parent in one decrement (document 01, DROP).
-- Definitions only; assumes nothing.
use Rattle.std.specs.Prelude.{true, not, [], ◌∷◌, ℕ}
use Rattle.terms.specs.Choose.{◌when◌}
use Rattle.terms.specs.Numbers.{NOENTRY, BUSY, FULL}
use Rattle.entry.specs.declared.Remote.{Remote}
use Rattle.entry.specs.declared.Entry.{Entry}
use Rattle.entry.specs.declared.Entry.TheVariants.{Absent, AtOwner, Elsewhere}
use Rattle.entry.specs.AtNode.{may_go}
use Rattle.table.specs.declared.Table.{Table}
use Rattle.table.specs.declared.Message.{Message}
use Rattle.table.specs.declared.Message.TheVariants.{Decrement}
use Rattle.table.specs.Table.{entry_at, empty_place, with_entry, with_message}
use Rattle.step.specs.Deed.{Dropped, Cleared}
use Rattle.step.specs.Outcome.{Rule, did, refused}
use Rattle.step.specs.Send.{is_full}

-- what a remote entry says as it goes: its return count and its whole weight, to its Parent
abbrev pub last_words : ℕ → ℕ → Remote → Message
last_words p o e = Decrement p e.parent o e.msg_ctr e.ref_weight

-- DROP of what stands for o at p
unfoldable pub drop_of : Table → ℕ → ℕ → Entry → Rule
drop_of t p o Absent = record { refusals = (NOENTRY when true) ∷ []; effect = refused t NOENTRY }
drop_of t p o (AtOwner d) = record {
  refusals = (BUSY when not (may_go (AtOwner d))) ∷ [];
  effect = did Cleared (with_entry t p o Absent);
}
drop_of t p o (Elsewhere e) = record {
  refusals = (BUSY when not (may_go (Elsewhere e))) ∷ (FULL when is_full t) ∷ [];
  effect = did (Dropped (empty_place t)) (with_entry (with_message t (empty_place t) (last_words p o e)) p o Absent);
}

abbrev pub drop : Table → ℕ → ℕ → Rule
drop t p o = drop_of t p o (entry_at t p o)
