-- COLLECT's changes on the bytes of an image are its changes of records. Assumes nothing.
use Rattle.std.specs.Prelude.{◌≡◌, Bool, true, false, ℕ, ◌+◌, ◌*◌, ◌<◌, eqb, if◌then◌else◌}
use Rattle.std.proofs.Math.Path.{refl, subst}
use Rattle.std.proofs.Common.{sym, ap, ◌∙◌, arith, eq-eqb, ne_eqb}
use mathlib.Core.List.{List, [], ◌∷◌, ◌++◌, append-nil}
use Rattle.terms.specs.Counted.{list}
use Rattle.terms.specs.Limits.{NODES, OBJECTS, OWNED, owner}
use Rattle.entry.specs.declared.Entry.{Entry}
use Rattle.entry.specs.declared.Entry.TheVariants.{Absent, AtOwner, Elsewhere}
use Rattle.entry.specs.AtNode.{set_unused}
use Rattle.entry.specs.Fits.{fits_entry}
use Rattle.entry.specs.FitsLaws.{away, home}
use Rattle.heap.specs.Walk.{is_marked}
use Rattle.table.specs.declared.Table.{Table}
use Rattle.table.specs.Table.{entry_at}
use Rattle.image.specs.declared.Held.{Held}
use Rattle.image.specs.declared.Held.TheVariants as h
use Rattle.image.specs.Find.{entry_records, held_records}
use Rattle.image.specs.Records.{Record}
use Rattle.image.specs.Spots.{Spot, count, object}
use Rattle.splice.specs.Changed.{entry_spot, entry_record}
use Rattle.splice.proofs.Changed.{entry_within}
use Rattle.splice.specs.Events.{count_to}
use Rattle.splice.specs.Patched as patched
use Rattle.plan.specs.Change.{Change, Sweep}
use Rattle.plan.specs.Picks.{picks_match}
use Rattle.plan.specs.Plan.{at, object_spot, entry_spot_in, entry_of}
use Rattle.plan.specs.Planned.{Matches, none, made}
use Rattle.plan.specs.Sweep.{entry_unused, sweep_changes}
use Rattle.plan.specs.SweepDiffers.{object_out, directory_out, unused_to, of_own, unused_picks, sweep_picks}
use Rattle.plan.specs.Told.{Told}

-- the record of an entry that is no longer used, found by the node or by the entry
unused_records : (p o : ℕ) (e : Entry) → fits_entry p o e ≡ true → entry_record p o (set_unused e) ≡ entry_records p o (set_unused e)
unused_records p o Absent fits = go (eqb p (owner o))
  where
    go : (b : Bool) → ◌≡◌ {A = List Record} (if b then [] else []) []
    go true = refl
    go false = refl
unused_records p o (AtOwner d) fits = rw (eq-eqb p (owner o) (home p o d fits).own)
unused_records p o (Elsewhere r) fits = rw (ne_eqb p (owner o) (away p o r fits).elsewhere)

module _ {l : List ℕ} {t : Table} (told : Told l t) (p : ℕ) (lp : p < NODES) (s : Sweep) where
  small : (k : ℕ) → k < OWNED → OWNED * p + k < OBJECTS
  small k lt = omega arith

  module _ (cs : List Change) (ps : List patched.Change) (rest : Matches l cs ps) where
    -- own object number k goes
    object_made : (k : ℕ) → k < OWNED → Matches l (at (object_spot l (OWNED * p + k)) (OWNED * p + k) 0 h.Nothing ∷ cs) (object_out p k ∷ ps)
    object_made k lt =
        let spot : Spot = object (OWNED * p + k) in
        made spot (small k lt) (told.begins spot (small k lt)) (told.ends spot (small k lt)) refl rest

    -- the entry of an object at p becomes another
    entry_made : (o : ℕ) → o < OBJECTS → (held : Held) (rs : List Record) → rs ≡ held_records p o held
        → Matches l (at (entry_spot_in l p o) p o held ∷ cs) (patched.change (entry_spot p o) rs ∷ ps)
    entry_made o lo held rs is =
        let within = entry_within p o lp lo in
        made (entry_spot p o) within (told.begins (entry_spot p o) within) (told.ends (entry_spot p o) within) is rest

    -- its directory goes
    directory_made : (k : ℕ) → k < OWNED
        → Matches l (at (entry_spot_in l p (OWNED * p + k)) p (OWNED * p + k) h.Nothing ∷ cs) (directory_out p k ∷ ps)
    directory_made k lt = entry_made (OWNED * p + k) (small k lt) h.Nothing [] refl

    -- an entry is no longer used
    unused_made : (o : ℕ) → o < OBJECTS
        → Matches l (at (entry_spot_in l p o) p o (h.Entry (set_unused (entry_of l p o))) ∷ cs) (unused_to t p o ∷ ps)
    unused_made o lo =
        entry_made o lo (h.Entry (set_unused (entry_of l p o))) (entry_record p o (set_unused (entry_at t p o)))
        (unused_records p o (entry_at t p o) (told.shape.entries p o lp lo)
        ∙ ap (λ (e : Entry). entry_records p o (set_unused e)) (sym (told.entries p o lp lo)))

  pub sweep_matches : (n : ℕ) → Matches l (sweep_changes n l p s) (count_to n ∷ sweep_picks t p (is_marked s.gone) (is_marked s.unused))
  unfolding sweep_changes
  sweep_matches n =
      made count tt (sym told.first) (sym told.second) refl
      (picks_match l (of_own p (is_marked s.gone)) _ (object_out p) _ _ 0 OWNED (λ k lt cs ps rest. object_made cs ps rest k lt)
      (picks_match l (of_own p (is_marked s.gone)) _ (directory_out p) _ _ 0 OWNED (λ k lt cs ps rest. directory_made cs ps rest k lt)
      unused))
    where
      unused : Matches l (list OBJECTS (entry_unused l p s.unused)) (unused_picks t p (is_marked s.unused))
      unused =
          subst (Matches l (list OBJECTS (entry_unused l p s.unused))) (append-nil _)
          (subst (λ (cs : List Change). Matches l cs (unused_picks t p (is_marked s.unused) ++ [])) (append-nil _)
          (picks_match l (is_marked s.unused) _ (unused_to t p) [] [] 0 OBJECTS (λ o lo cs ps rest. unused_made cs ps rest o lo) none))
