-- What stands where in a table of which one thing was changed: the new thing in its spot, the old ones in all others. Assumes nothing.
use Rattle.std.specs.Prelude.{◌≡◌, ◌≢◌, refl, [], ℕ, ◌<◌, length, Option, Some, None, unwrap_or, IfSome}
use Rattle.std.proofs.Common.{ap, ◌∙◌, ⊎_elim, arith, get_or-set_same, get_or-set_other}
use Rattle.terms.specs.Limits.{NODES, OBJECTS, PLACES}
use Rattle.entry.specs.declared.Entry.{Entry}
use Rattle.entry.specs.declared.Entry.TheVariants.{Absent}
use Rattle.table.specs.declared.Cell.{Cell}
use Rattle.table.specs.declared.Message.{Message}
use Rattle.table.specs.declared.Message.TheVariants.{Empty}
use Rattle.table.specs.declared.Place.{Place}
use Rattle.table.specs.declared.Slot.{Slot}
use Rattle.table.specs.declared.Table.{Table}
use Rattle.table.specs.Formed.{Formed}
use Rattle.table.specs.Table.{cell_at, cell_with, entry_at, entry_in, message_at, with_entry, with_message}
use Rattle.table.specs.NewOrSame.{entry_either, message_either}

-- ---- entries

-- in a cell, the entry of another node stays
pub cell_kept : (c : Cell) (p q : ℕ) (e : Entry) → q ≢ p → entry_in (cell_with c p e) q ≡ entry_in c q
cell_kept c p q e ne = ap (λ (s : Slot). s.held) (get_or-set_other c.at p q (record { held = e }) (record { held = Absent }) ne)

-- and the new entry is there
pub cell_set : (c : Cell) (p : ℕ) (e : Entry) → p < length c.at → entry_in (cell_with c p e) p ≡ e
cell_set c p e lt = ap (λ (s : Slot). s.held) (get_or-set_same c.at p (record { held = e }) (record { held = Absent }) lt)

module _ (t : Table) (p o : ℕ) (e : Entry) where
  -- every other entry stays
  pub entry_other : (q a : ℕ) → (a ≡ o → q ≡ p → ⊥) → entry_at (with_entry t p o e) q a ≡ entry_at t q a
  entry_other q a ne = ⊎_elim (λ new. absurd (ne new.1 new.0)) (λ same. same) (entry_either t p o e q a)

  -- the new entry is there
  pub entry_there : Formed t → o < OBJECTS → p < NODES → entry_at (with_entry t p o e) p o ≡ e
  entry_there formed object node =
      ap (λ (c : Cell). entry_in c p) (get_or-set_same t.cells o (cell_with (cell_at t o) p e) (record { at = [] }) (omega (arith, formed.cells)))
      ∙ cell_set (cell_at t o) p e (omega (arith, formed.entries o object))

-- ---- messages

module _ (t : Table) (s : ℕ) (m : Message) where
  -- messages in other places stay
  pub message_elsewhere : (a : ℕ) → a ≢ s → message_at (with_message t s m) a ≡ message_at t a
  message_elsewhere a ne = ⊎_elim (λ new. absurd (ne new.0)) (λ same. same) (message_either t s m a)

  -- the new message is there
  pub message_there : length t.air ≡ PLACES → s < PLACES → message_at (with_message t s m) s ≡ m
  message_there size place =
      ap (λ (x : Place). x.held) (get_or-set_same t.air s (record { held = m }) (record { held = Empty }) (omega arith))

-- ---- the empty place

-- no two answers tell one number up to n, so what tells the lowest empty place leaves nothing open
pub below_one : (n : ℕ) (a b : Option ℕ) → IfSome a (λ s. s < n) → IfSome b (λ s. s < n) → unwrap_or a n ≡ unwrap_or b n → a ≡ b
below_one n (Some a) (Some b) p q e = rw e
below_one n (Some a) None p q e = absurd (omega arith)
below_one n None (Some b) p q e = absurd (omega arith)
below_one n None None p q e = refl
