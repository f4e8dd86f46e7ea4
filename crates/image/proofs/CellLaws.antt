-- The cells while an image is read: some entries are the table's already, the others are absent still. Assumes nothing.
use Rattle.std.specs.Prelude.{◌≡◌, refl, Bool, true, false, List, [], ℕ, ◌<◌, ltb, length, get_or, set, if◌then◌else◌}
use Rattle.std.proofs.Common.{sym, ap, ◌∙◌, arith, length-set, ext_get_or, get_or-set_same, get_or-set_other, ltb-true, ltb-false, lt-ltb}
use Rattle.std.proofs.Math.Decide.{ℕ_discrete}
use Rattle.terms.specs.Limits.{NODES, OBJECTS}
use Rattle.terms.proofs.SetLaws.{set_all}
use Rattle.entry.specs.declared.Entry.{Entry}
use Rattle.entry.specs.declared.Entry.TheVariants.{Absent}
use Rattle.table.specs.declared.Cell.{Cell}
use Rattle.table.specs.declared.Slot.{Slot}
use Rattle.table.specs.declared.Table.{Table}
use Rattle.table.specs.Formed.{Formed}
use Rattle.table.specs.Fresh.{fresh_entry, fresh_formed}
use Rattle.table.specs.Table.{fresh_table, cell_at, cell_with, entry_in, entry_at}
use Rattle.table.specs.TableLaws.{cell_kept, cell_set}

abbrev no_cell : Cell
no_cell = record { at = [] }

abbrev no_slot : Slot
no_slot = record { held = Absent }

-- the entry where it is shown already, and none elsewhere
abbrev pub shown_of : Bool → Entry → Entry
shown_of b e = if b then e else Absent

-- the cells hold the entries of t that are shown, and no others
pub record Cells (t : Table) (shown : ℕ → ℕ → Bool) (cs : List Cell) : Type 0 where
  pub size : length cs ≡ OBJECTS
  pub sizes : (o : ℕ) → o < OBJECTS → length (get_or cs o no_cell).at ≡ NODES
  pub entries : (p o : ℕ) → p < NODES → o < OBJECTS → entry_in (get_or cs o no_cell) p ≡ shown_of (shown p o) (entry_at t p o)

module _ {t : Table} where
  -- the same entries said otherwise
  pub cells_same : {shown shown' : ℕ → ℕ → Bool} {cs : List Cell}
      → ((p o : ℕ) → p < NODES → o < OBJECTS → shown_of (shown p o) (entry_at t p o) ≡ shown_of (shown' p o) (entry_at t p o))
      → Cells t shown cs → Cells t shown' cs
  cells_same same c = record { size = c.size; sizes = c.sizes; entries = λ p o lp lo. c.entries p o lp lo ∙ same p o lp lo }

  -- the fresh cells show nothing
  pub cells_fresh : {shown : ℕ → ℕ → Bool} → ((p o : ℕ) → shown p o ≡ false) → Cells t shown fresh_table.cells
  cells_fresh none = record {
    size = fresh_formed.cells;
    sizes = fresh_formed.entries;
    entries = λ p o lp lo. rw (none p o) (fresh_entry p o lp lo);
  }

  -- one entry more is shown, and stood there already
  pub cells_keep : {shown shown' : ℕ → ℕ → Bool} {cs : List Cell} (p o : ℕ)
      → ((q a : ℕ) → q < NODES → a < OBJECTS → (a ≡ o → q ≡ p → ⊥) → shown_of (shown q a) (entry_at t q a) ≡ shown_of (shown' q a) (entry_at t q a))
      → shown_of (shown p o) (entry_at t p o) ≡ shown_of (shown' p o) (entry_at t p o)
      → Cells t shown cs → Cells t shown' cs
  cells_keep p o other is = cells_same (λ q a lq la. elim (ℕ_discrete a o) [
    | yes ea ↦ rw ea (elim (ℕ_discrete q p) [ yes eq ↦ rw eq is | no nq ↦ other q o lq (rw ea at la) (λ _ eq. nq eq) ])
    | no na ↦ other q a lq la (λ ea _. na ea)
  ])

  -- one entry more is shown
  pub cells_set : {shown shown' : ℕ → ℕ → Bool} {cs : List Cell} (p o : ℕ) (e : Entry) → p < NODES → o < OBJECTS
      → ((q a : ℕ) → q < NODES → a < OBJECTS → (a ≡ o → q ≡ p → ⊥) → shown_of (shown q a) (entry_at t q a) ≡ shown_of (shown' q a) (entry_at t q a))
      → e ≡ shown_of (shown' p o) (entry_at t p o)
      → Cells t shown cs → Cells t shown' (set cs o (cell_with (get_or cs o no_cell) p e))
  cells_set {shown} {shown'} {cs} p o e lp lo other is c = record { size = length-set cs o new ∙ c.size; sizes = sized; entries = held }
    where
      new : Cell
      new = cell_with (get_or cs o no_cell) p e

      there : get_or (set cs o new) o no_cell ≡ new
      there = get_or-set_same cs o new no_cell (omega (arith, c.size))

      sized : (a : ℕ) → a < OBJECTS → length (get_or (set cs o new) a no_cell).at ≡ NODES
      sized a la =
          set_all (λ j x. length x.at ≡ NODES) cs o new no_cell (length-set (get_or cs o no_cell).at p (record { held = e }) ∙ c.sizes o lo)
          a (c.sizes a la)

      held : (q a : ℕ) → q < NODES → a < OBJECTS → entry_in (get_or (set cs o new) a no_cell) q ≡ shown_of (shown' q a) (entry_at t q a)
      held q a lq la = elim (ℕ_discrete a o) [
        | yes ea ↦ rw (ea, there) (elim (ℕ_discrete q p) [
          | yes eq ↦ rw eq (cell_set (get_or cs o no_cell) p e (omega (arith, c.sizes o lo)) ∙ is)
          | no nq ↦ cell_kept (get_or cs o no_cell) p q e nq ∙ c.entries q o lq lo ∙ other q o lq lo (λ _ eq. nq eq)
        ])
        | no na ↦ rw (get_or-set_other cs o a new no_cell na) (c.entries q a lq la ∙ other q a lq la (λ ea _. na ea))
      ]

  -- where all are shown, they are the table's cells
  pub cells_all : {shown : ℕ → ℕ → Bool} {cs : List Cell} → Formed t
      → ((p o : ℕ) → p < NODES → o < OBJECTS → shown_of (shown p o) (entry_at t p o) ≡ entry_at t p o) → Cells t shown cs → cs ≡ t.cells
  cells_all {shown} {cs} formed all c = ext_get_or no_cell cs t.cells (c.size ∙ sym formed.cells) one
    where
      slots : (o : ℕ) → o < OBJECTS → (get_or cs o no_cell).at ≡ (cell_at t o).at
      slots o lo = ext_get_or no_slot (get_or cs o no_cell).at (cell_at t o).at (c.sizes o lo ∙ sym (formed.entries o lo)) (λ p lp.
          ap (λ (e : Entry). slot e) (c.entries p o (omega (arith, c.sizes o lo)) lo ∙ all p o (omega (arith, c.sizes o lo)) lo))
        where
          slot : Entry → Slot
          slot e = record { held = e }

      one : (o : ℕ) → o < length cs → get_or cs o no_cell ≡ get_or t.cells o no_cell
      one o lo = ap (λ (l : List Slot). cell l) (slots o (omega (arith, c.size)))
        where
          cell : List Slot → Cell
          cell l = record { at = l }

-- two tests that say the same are equal
pub ltb_same : (a b c d : ℕ) → (a < b → c < d) → (c < d → a < b) → ltb a b ≡ ltb c d
ltb_same a b c d to from = go (ltb c d) refl
  where
    go : (r : Bool) → ltb c d ≡ r → ltb a b ≡ r
    go true e = lt-ltb a b (from (ltb-true c d e))
    go false e = go₂ (ltb a b) refl
      where
        go₂ : (r : Bool) → ltb a b ≡ r → r ≡ false
        go₂ true q = let lt = to (ltb-true a b q) in let ge = ltb-false c d e in absurd (omega arith)
        go₂ false q = refl
