-- What stands where after COLLECT at p (document 01, COLLECT): each object, and each entry, by whether the object is reclaimed, p's own, or held
-- at p. For tables as their type makes them. Assumes nothing.
use Rattle.std.specs.Prelude.{◌≡◌, ◌≢◌, ◌⊎◌, Bool, true, ℕ, ◌<◌, length, if◌then◌else◌}
use Rattle.std.proofs.Math.Path.{refl}
use Rattle.std.proofs.Common.{sym, ap, ◌∙◌, ⊎_elim, arith}
use Rattle.std.proofs.Math.Bool.{false}
use Rattle.std.proofs.lemmas.Bool.{false≢true, eqb-false}
use Rattle.terms.specs.Counted.{holds}
use Rattle.terms.specs.Limits.{NODES, OBJECTS, owner}
use Rattle.terms.proofs.ListLaws.{get_or-list, length_list}
use Rattle.entry.specs.declared.Entry.{Entry}
use Rattle.entry.specs.declared.Entry.TheVariants.{Absent, AtOwner, Elsewhere}
use Rattle.entry.specs.AtNode.{set_unused}
use Rattle.entry.specs.Entry.{is_directory}
use Rattle.heap.specs.declared.Object.{Object}
use Rattle.heap.specs.Heap.{idle, is_live, object_at, root_at}
use Rattle.heap.proofs.HeapLaws.{live_number}
use Rattle.heap.specs.Walk.{owned_by}
use Rattle.table.specs.declared.Cell.{Cell}
use Rattle.table.specs.declared.Table.{Table}
use Rattle.table.specs.Formed.{Formed}
use Rattle.table.specs.Table.{cell_at, cell_with, entry_at, entry_in}
use Rattle.table.specs.TableLaws.{cell_kept, cell_set}
use Rattle.step.specs.Collect.{cell_collected, heap_collected, held_at, is_reclaimed, kept, with_collected}

-- the table that COLLECT at p makes of t
abbrev pub collected : Table → ℕ → Table
collected t p = with_collected t p (kept t p) (held_at t p (kept t p))

-- object o is one that COLLECT at p reclaims
abbrev pub is_gone : Table → ℕ → ℕ → Bool
is_gone t p o = is_reclaimed t p (kept t p) o

-- a root of p or a kept object of p holds o
abbrev pub is_held_at : Table → ℕ → ℕ → Bool
is_held_at t p o = holds (held_at t p (kept t p)) o

module _ (t : Table) (p : ℕ) where
  -- ---- objects

  -- a reclaimed object is idle, any other as it was
  pub object_after : (o : ℕ) → o < OBJECTS → object_at (collected t p).heap o ≡ (if is_gone t p o then idle else object_at t.heap o)
  unfolding heap_collected
  object_after o lt = get_or-list OBJECTS (λ x. if is_gone t p x then idle else object_at t.heap x) o _ lt

  -- what is not reclaimed is as it was
  pub object_stays : (o : ℕ) → o < OBJECTS → is_gone t p o ≡ false → object_at (collected t p).heap o ≡ object_at t.heap o
  object_stays o lt stays = object_after o lt ∙ rw stays

  -- what is reclaimed is no longer live
  pub object_goes : (o : ℕ) → o < OBJECTS → is_gone t p o ≡ true → is_live (collected t p).heap o ≡ false
  object_goes o lt gone = let whole : object_at (collected t p).heap o ≡ idle = object_after o lt ∙ rw gone in ap (λ (x : Object). x.live) whole

  -- what is live after has an object number
  pub live_after_number : (o : ℕ) → is_live (collected t p).heap o ≡ true → o < OBJECTS
  unfolding heap_collected
  live_after_number o live = live_number (collected t p).heap o (length_list 0 OBJECTS _) live

  -- what is live after was not reclaimed, and was live before
  pub live_after : (o : ℕ) → is_live (collected t p).heap o ≡ true → (is_gone t p o ≡ false) × (is_live t.heap o ≡ true)
  live_after o live = go (is_gone t p o) refl
    where
      lt : o < OBJECTS
      lt = live_after_number o live

      go : (b : Bool) → is_gone t p o ≡ b → (is_gone t p o ≡ false) × (is_live t.heap o ≡ true)
      go true e = absurd (false≢true (sym (object_goes o lt e) ∙ live))
      go false e = (e, sym (ap (λ (x : Object). x.live) (object_stays o lt e)) ∙ live)

  -- roots stay
  pub root_stays : (q r : ℕ) → root_at (collected t p).heap q r ≡ root_at t.heap q r
  unfolding heap_collected
  root_stays q r = refl

  -- ---- entries

  -- the cell of an object is as it was; or the entry at p is gone with its object; or it is set unused, since nothing at p holds the object
  pub data Changed (o : ℕ) : Cell → Type 0 where
    kept_cell : is_gone t p o ≡ false → Changed o (cell_at t o)
    gone_cell : is_gone t p o ≡ true → Changed o (cell_with (cell_at t o) p Absent)
    unused_cell : is_gone t p o ≡ false → owner o ≢ p → is_held_at t p o ≡ false → Changed o (cell_with (cell_at t o) p (set_unused (entry_at t p o)))

  module _ (o : ℕ) (lt : o < OBJECTS) where
    -- the cell of an object is what COLLECT makes of it
    cell_after : cell_at (collected t p) o ≡ cell_collected t p (kept t p) (held_at t p (kept t p)) o (cell_at t o)
    cell_after = get_or-list OBJECTS (λ x. cell_collected t p (kept t p) (held_at t p (kept t p)) x (cell_at t x)) o _ lt

    -- one of the three it is
    pub changed : Changed o (cell_at (collected t p) o)
    unfolding cell_collected
    changed = rw cell_after (go (owned_by p o) (is_gone t p o) (is_held_at t p o) refl refl refl)
      where
        -- what is not p's own is not reclaimed
        others : owned_by p o ≡ false → is_gone t p o ≡ false
        others away = rw away

        go : (a b c : Bool) → owned_by p o ≡ a → is_gone t p o ≡ b → is_held_at t p o ≡ c
            → Changed o (
            if a
            then (if b then cell_with (cell_at t o) p Absent else cell_at t o)
            else (if c then cell_at t o else cell_with (cell_at t o) p (set_unused (entry_at t p o))))
        go true true c own gone held = gone_cell gone
        go true false c own gone held = kept_cell gone
        go false b true own gone held = kept_cell (others own)
        go false b false own gone held = unused_cell (others own) (eqb-false (owner o) p own) held

    -- at every other node the entry is as it was
    pub collected_elsewhere : (q : ℕ) → q ≢ p → entry_at (collected t p) q o ≡ entry_at t q o
    collected_elsewhere q other = go (cell_at (collected t p) o) changed
      where
        go : (c : Cell) → Changed o c → entry_in c q ≡ entry_at t q o
        go c (kept_cell stays) = refl
        go c (gone_cell gone) = cell_kept (cell_at t o) p q Absent other
        go c (unused_cell stays away idle) = cell_kept (cell_at t o) p q (set_unused (entry_at t p o)) other

    -- where p holds an object that is not reclaimed, or owns it, every entry of it is as it was
    pub collected_kept : is_gone t p o ≡ false → (owner o ≡ p) ⊎ (is_held_at t p o ≡ true) → (q : ℕ) → entry_at (collected t p) q o ≡ entry_at t q o
    collected_kept stays why q = go (cell_at (collected t p) o) changed
      where
        go : (c : Cell) → Changed o c → entry_in c q ≡ entry_at t q o
        go c (kept_cell _) = refl
        go c (gone_cell gone) = absurd (false≢true (sym stays ∙ gone))
        go c (unused_cell _ away idle) = absurd (⊎_elim away (λ held. false≢true (sym idle ∙ held)) why)

    -- a directory at p after was one before, and its object is not reclaimed
    pub collected_directory : Formed t → p < NODES → is_directory (entry_at (collected t p) p o) ≡ true
        → (is_directory (entry_at t p o) ≡ true) × (is_gone t p o ≡ false)
    collected_directory formed node = go (cell_at (collected t p) o) changed
      where
        long : p < length (cell_at t o).at
        long = omega (arith, formed.entries o lt)

        at_p : (e : Entry) → entry_in (cell_with (cell_at t o) p e) p ≡ e
        at_p e = cell_set (cell_at t o) p e long

        unused : (e : Entry) → is_directory (set_unused e) ≡ true → is_directory e ≡ true
        unused Absent d = d
        unused (AtOwner x) d = d
        unused (Elsewhere x) d = d

        go : (c : Cell) → Changed o c → is_directory (entry_in c p) ≡ true → (is_directory (entry_at t p o) ≡ true) × (is_gone t p o ≡ false)
        go c (kept_cell stays) d = (d, stays)
        go c (gone_cell gone) d = absurd (false≢true (sym (ap is_directory (at_p Absent)) ∙ d))
        go c (unused_cell stays away idle) d =
            let e = set_unused (entry_at t p o) in (unused (entry_at t p o) (sym (ap is_directory (at_p e)) ∙ d), stays)
