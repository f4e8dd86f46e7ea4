-- The bridge from the counting to the heap (PROOF-PLAN, "The theorem that answers the insurer"): where the directory of an object is clear,
-- nobody else has it. Here it is stated, and turned round: whoever has it keeps the directory from being clear. The heap's laws take the
-- bridge as a hypothesis, so that they hold for any counting that gives it. Assumes nothing.
use Rattle.std.specs.Prelude.{◌≡◌, refl, ◌≢◌, true, false, ℕ, ◌<◌}
use Rattle.std.proofs.Common.{sym, ◌∙◌, true≢false}
use Rattle.std.proofs.Math.Bool.{not-eq-not}
use Rattle.terms.specs.Limits.{NODES, OBJECTS, PLACES, owner}
use Rattle.entry.specs.declared.Entry.{Entry}
use Rattle.entry.specs.declared.Entry.TheVariants.{Absent, AtOwner, Elsewhere}
use Rattle.entry.specs.Entry.{is_absent, is_clear, is_present}
use Rattle.table.specs.declared.Message.{Message}
use Rattle.table.specs.declared.Message.TheVariants.{Empty, Reference, Decrement}
use Rattle.table.specs.declared.Table.{Table}
use Rattle.table.specs.Table.{entry_at, is_reference_of, message_at}
use Rattle.laws.specs.Counting.Change.{is_of}
use Rattle.laws.specs.Heap.Nobody.{Nobody}

-- clear means nobody
abbrev pub Bridge : Table → Type 0
Bridge t = (o : ℕ) → o < OBJECTS → is_clear (entry_at t (owner o) o) ≡ true → Nobody t o

-- an entry with Presence true is an entry
present_stands : (e : Entry) → is_present e ≡ true → is_absent e ≡ false
present_stands Absent h = sym h
present_stands (AtOwner d) h = refl
present_stands (Elsewhere e) h = refl

-- a reference to an object is a message of it
reference_of : (o : ℕ) (m : Message) → is_reference_of o m ≡ true → is_of o m ≡ true
reference_of o Empty h = h
reference_of o (Reference from to x) h = h
reference_of o (Decrement from to x m n) h = absurd (true≢false (sym h))

module _ {t : Table} (bridge : Bridge t) (o : ℕ) (lt : o < OBJECTS) where
  -- a directory that cannot be clear is not
  not_clear : (Nobody t o → ⊥) → is_clear (entry_at t (owner o) o) ≡ false
  not_clear some = not-eq-not.0 (λ clear. some (bridge o lt clear))

  -- while another node has it in use, the directory is not clear
  pub present_counted : (p : ℕ) → p < NODES → p ≢ owner o → is_present (entry_at t p o) ≡ true → is_clear (entry_at t (owner o) o) ≡ false
  present_counted p node other present = not_clear λ nobody. true≢false (sym (nobody.entries p node other) ∙ present_stands (entry_at t p o) present)

  -- while a reference to it is in the air, the directory is not clear
  pub air_counted : (s : ℕ) → s < PLACES → is_reference_of o (message_at t s) ≡ true → is_clear (entry_at t (owner o) o) ≡ false
  air_counted s place held = not_clear λ nobody. true≢false (sym (reference_of o (message_at t s) held) ∙ nobody.messages s place)
