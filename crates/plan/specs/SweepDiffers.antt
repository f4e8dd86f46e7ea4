-- What COLLECT changes (document 01, COLLECT): the count, the objects that go, their directories, and the entries no longer used; all other
-- records of the image stay. Assumes nothing.
use Rattle.std.specs.Prelude.{◌≡◌, ◌≢◌, Bool, true, false, not, List, [], ◌∷◌, ◌++◌, ℕ, ◌+◌, ◌-◌, ◌*◌, ◌<◌, if◌then◌else◌}
use Rattle.std.proofs.Math.Path.{refl, sym, ap}
use Rattle.std.proofs.Common.{subst, ◌∙◌, append-nil, arith, get_or-set_same, get_or-set_other, eqb-true, eq-eqb, ne_eqb}
use Rattle.std.proofs.Math.Decide.{ℕ_discrete, dec_lt}
use Rattle.std.proofs.Math.ListN.{get_or-eq_default}
use Rattle.std.proofs.lemmas.Bool.{eqb-false}
use Rattle.terms.specs.Choose.{◌and◌}
use Rattle.terms.proofs.ChooseLaws.{and_passes}
use Rattle.terms.specs.Counted.{gather, holds}
use Rattle.terms.specs.Limits.{NODES, OBJECTS, OWNED, owner}
use Rattle.terms.proofs.ListLaws.{get_or-list, length_list}
use Rattle.entry.specs.declared.Entry.{Entry}
use Rattle.entry.specs.declared.Entry.TheVariants.{Absent}
use Rattle.entry.specs.AtNode.{set_unused}
use Rattle.entry.specs.Entry.{is_present}
use Rattle.heap.specs.Heap.{idle, is_live, object_at}
use Rattle.heap.specs.Walk.{Marks, is_marked, owned_by}
use Rattle.table.specs.declared.Cell.{Cell}
use Rattle.table.specs.declared.Slot.{Slot}
use Rattle.table.specs.declared.Table.{Table}
use Rattle.table.specs.Formed.{Formed}
use Rattle.table.specs.ShapeLaws.{Shaped}
use Rattle.table.specs.Table.{cell_at, cell_with, entry_at, entry_in, with_count}
use Rattle.image.specs.Spots.{Spot, count, object, roots, directory, remote, message, spot_position, record_at}
use Rattle.image.specs.Stored.{live_record}
use Rattle.image.specs.Writer.{directory_record, remote_record}
use Rattle.splice.specs.Changed.{entry_spot, entry_record}
use Rattle.splice.proofs.Changed.{proper, entry_record_lem}
use Rattle.splice.specs.Events.{count_to, entry_to}
use Rattle.splice.specs.Patched.{Change, change, Ascends, Stands, Outside, Differs}
use Rattle.step.specs.Collect.{cell_collected, heap_collected, is_reclaimed, with_collected}
use Rattle.step.specs.CollectLaws.{unused_already}
use Rattle.plan.specs.Picks.{pick, picks_ascend, picks_stand, picks_outside}

-- ---- the changes

-- own object number k goes, and its directory with it
abbrev pub object_out : ℕ → ℕ → Change
object_out p k = change (object (OWNED * p + k)) []

abbrev pub directory_out : ℕ → ℕ → Change
directory_out p k = change (entry_spot p (OWNED * p + k)) []

-- the entry of another's object at p gets Presence false
abbrev pub unused_to : Table → ℕ → ℕ → Change
unused_to t p o = entry_to p o (set_unused (entry_at t p o))

-- a test of objects, asked of p's own by their number among them
abbrev pub of_own : ℕ → (ℕ → Bool) → ℕ → Bool
of_own p test k = test (OWNED * p + k)

-- those of all, and all changes but the count's
abbrev pub unused_picks : Table → ℕ → (ℕ → Bool) → List Change
unused_picks t p unused = gather OBJECTS (pick unused (unused_to t p))

abbrev pub sweep_picks : Table → ℕ → (ℕ → Bool) → (ℕ → Bool) → List Change
sweep_picks t p gone unused =
    gather OWNED (pick (of_own p gone) (object_out p)) ++ (gather OWNED (pick (of_own p gone) (directory_out p)) ++ unused_picks t p unused)

-- ---- own objects

-- an own object, by its number among them
own_owner : (p k : ℕ) → k < OWNED → owner (OWNED * p + k) ≡ p
own_owner p k lt = omega arith

own_index : (p o : ℕ) → owner o ≡ p → (OWNED * p + (o - OWNED * p) ≡ o) × (o - OWNED * p < OWNED)
own_index p o e = (omega arith, omega arith)

-- the spot of its directory
own_spot : (p o : ℕ) → owner o ≡ p → entry_spot p o ≡ directory o
own_spot p o e = rw (eq-eqb p (owner o) (sym e))

-- the spot of another's entry
other_spot : (p o : ℕ) → owner o ≢ p → entry_spot p o ≡ remote p o
other_spot p o ne = rw (ne_eqb p (owner o) (λ e. ne (sym e)))

untrue : (b : Bool) → (b ≡ true → ⊥) → b ≡ false
untrue true never = absurd (never refl)
untrue false never = refl

-- ---- what stands where afterwards

module _ (t : Table) (formed : Formed t) (p : ℕ) (lp : p < NODES) (marks : Marks) (held : List ℕ) where
  abbrev after : Table
  after = with_collected t p marks held

  abbrev goes : ℕ → Bool
  goes o = is_reclaimed t p marks o

  -- what goes is p's own
  goes_own : (o : ℕ) → goes o ≡ true → owner o ≡ p
  goes_own o e = eqb-true (owner o) p ((and_passes (owned_by p o) (is_live t.heap o and not (is_marked marks o))).0 e).0

  -- objects
  object_after : (o : ℕ) → o < OBJECTS → object_at after.heap o ≡ (if goes o then idle else object_at t.heap o)
  unfolding heap_collected
  object_after o lt = get_or-list OBJECTS (λ x. if goes x then idle else object_at t.heap x) o _ lt

  no_object_lem : (o : ℕ) → (o < OBJECTS → ⊥) → object_at after.heap o ≡ object_at t.heap o
  unfolding heap_collected
  no_object_lem o out =
      let size = length_list 0 OBJECTS (λ x. if goes x then idle else object_at t.heap x) in
      get_or-eq_default after.heap.objects _ (omega (arith, size, out))
      ∙ sym (get_or-eq_default t.heap.objects _ (omega (arith, formed.objects, out)))

  -- cells
  cell_after : (o : ℕ) → o < OBJECTS → cell_at after o ≡ cell_collected t p marks held o (cell_at t o)
  cell_after o lt = get_or-list OBJECTS (λ x. cell_collected t p marks held x (cell_at t x)) o _ lt

  no_cell : (o : ℕ) → (o < OBJECTS → ⊥) → cell_at after o ≡ cell_at t o
  no_cell o out =
      let size = length_list 0 OBJECTS (λ x. cell_collected t p marks held x (cell_at t x)) in
      get_or-eq_default after.cells _ (omega (arith, size, out)) ∙ sym (get_or-eq_default t.cells _ (omega (arith, formed.cells, out)))

  module _ (o : ℕ) (lo : o < OBJECTS) where
    abbrev cell : Cell → Bool → Bool → Bool → Cell
    cell c own gone holding =
        if own then (if gone then cell_with c p Absent else c) else (if holding then c else cell_with c p (set_unused (entry_in c p)))

    -- at another node the entry stays
    entry_elsewhere : (q : ℕ) → q ≢ p → entry_at after q o ≡ entry_at t q o
    unfolding cell_collected
    entry_elsewhere q ne = ap (λ (c : Cell). entry_in c q) (cell_after o lo) ∙ go (owned_by p o) (goes o) (holds held o)
      where
        other : (e : Entry) → entry_in (cell_with (cell_at t o) p e) q ≡ entry_at t q o
        other e = ap (λ (s : Slot). s.held) (get_or-set_other (cell_at t o).at p q (record { held = e }) (record { held = Absent }) ne)

        go : (own gone holding : Bool) → entry_in (cell (cell_at t o) own gone holding) q ≡ entry_at t q o
        go true true holding = other Absent
        go true false holding = refl
        go false gone true = refl
        go false gone false = other (set_unused (entry_at t p o))

    -- at p it goes with its object, or is no longer used
    entry_after : entry_at after p o
        ≡ (if owned_by p o then (if goes o then Absent else entry_at t p o) else (if holds held o then entry_at t p o else set_unused (entry_at t p o)))
    unfolding cell_collected
    entry_after = ap (λ (c : Cell). entry_in c p) (cell_after o lo) ∙ go (owned_by p o) (goes o) (holds held o)
      where
        here : (e : Entry) → entry_in (cell_with (cell_at t o) p e) p ≡ e
        here e =
            ap (λ (s : Slot). s.held)
            (get_or-set_same (cell_at t o).at p (record { held = e }) (record { held = Absent }) (omega (arith, formed.entries o lo)))

        go : (own gone holding : Bool) → entry_in (cell (cell_at t o) own gone holding) p
            ≡ (if own then (if gone then Absent else entry_at t p o) else (if holding then entry_at t p o else set_unused (entry_at t p o)))
        go true true holding = here Absent
        go true false holding = refl
        go false gone true = refl
        go false gone false = here (set_unused (entry_at t p o))

  -- ---- the changes are these

  module _ (shape : Shaped t) (gone unused : ℕ → Bool) (is_gone : (o : ℕ) → o < OBJECTS → gone o ≡ goes o)
      (is_unused : (o : ℕ) → o < OBJECTS → unused o ≡ (not (owned_by p o) and not (holds held o) and is_present (entry_at t p o))) where
    -- an own object's number is one of all
    small : (k : ℕ) → k < OWNED → OWNED * p + k < OBJECTS
    small k lt = omega arith

    -- what is no longer used is another's
    unused_other : (o : ℕ) → o < OBJECTS → unused o ≡ true → owner o ≢ p
    unused_other o lo e = eqb-false (owner o) p (go (owned_by p o) (sym (is_unused o lo) ∙ e))
      where
        go : (own : Bool) → (not own and not (holds held o) and is_present (entry_at t p o)) ≡ true → own ≡ false
        go true is = sym is
        go false is = refl

    -- and not held
    unused_free : (o : ℕ) → o < OBJECTS → unused o ≡ true → holds held o ≡ false
    unused_free o lo e = go (owned_by p o) (holds held o) (sym (is_unused o lo) ∙ e)
      where
        go : (own holding : Bool) → (not own and not holding and is_present (entry_at t p o)) ≡ true → holding ≡ false
        go true true is = sym is
        go false true is = sym is
        go own false is = refl

    ascend : Ascends 1 (sweep_picks t p gone unused)
    ascend =
        picks_ascend (of_own p gone) (object_out p) _ (spot_position (object (OWNED * p))) 1 0 OWNED (omega arith) (λ k lt e. (omega arith, small k lt))
        (picks_ascend (of_own p gone) (directory_out p) _ (spot_position (directory (OWNED * p))) _ 0 OWNED (omega arith)
        (λ k lt e. rw (own_spot p (OWNED * p + k) (own_owner p k lt)) (omega arith, small k lt))
        (subst (Ascends _) (append-nil (unused_picks t p unused))
        (picks_ascend unused (unused_to t p) [] (spot_position (remote p 0)) _ 0 OBJECTS (omega arith)
        (λ o lo e. rw (other_spot p o (unused_other o lo e)) (omega arith, (lp, lo))) tt)))

    module _ (n : ℕ) where
      object_out_lem : (o : ℕ) → o < OBJECTS → gone o ≡ true → record_at (with_count after n) (object o) ≡ []
      object_out_lem o lo e =
          let is : object_at after.heap o ≡ idle = object_after o lo ∙ rw (sym (is_gone o lo) ∙ e) in
          ap (live_record o) is

      directory_out_lem : (o : ℕ) → o < OBJECTS → owner o ≡ p → gone o ≡ true → record_at (with_count after n) (directory o) ≡ []
      directory_out_lem o lo own e =
          let is : entry_at after p o ≡ Absent = entry_after o lo ∙ rw (sym (is_gone o lo) ∙ e, eq-eqb (owner o) p own) in
          ap (λ (q : ℕ). directory_record o (entry_at after q o)) own ∙ ap (directory_record o) is

      entry_unused_lem : (o : ℕ) → o < OBJECTS → unused o ≡ true
          → record_at (with_count after n) (entry_spot p o) ≡ entry_record p o (set_unused (entry_at t p o))
      entry_unused_lem o lo e =
          let is : entry_at after p o ≡ set_unused (entry_at t p o) =
          entry_after o lo ∙ rw (ne_eqb (owner o) p (unused_other o lo e), unused_free o lo e) in
          entry_record_lem (with_count after n) p o ∙ ap (entry_record p o) is

      stand : Stands (with_count after n) (sweep_picks t p gone unused)
      stand =
          picks_stand (of_own p gone) (object_out p) _ _ 0 OWNED (λ k lt e. object_out_lem (OWNED * p + k) (small k lt) e)
          (picks_stand (of_own p gone) (directory_out p) _ _ 0 OWNED
          (λ k lt e. let own = own_owner p k lt in rw (own_spot p (OWNED * p + k) own) (directory_out_lem (OWNED * p + k) (small k lt) own e))
          (subst (Stands _) (append-nil (unused_picks t p unused))
          (picks_stand unused (unused_to t p) [] _ 0 OBJECTS (λ o lo e. entry_unused_lem o lo e) tt)))

      -- what stands at the position of none of them does not go, and is not unused
      module _ (x : Spot) (out : Outside (sweep_picks t p gone unused) x) where
        others : Outside (gather OWNED (pick (of_own p gone) (directory_out p)) ++ unused_picks t p unused) x
        others = (picks_outside (of_own p gone) (object_out p) _ x 0 OWNED out).1

        last : Outside (unused_picks t p unused) x
        last = (picks_outside (of_own p gone) (directory_out p) _ x 0 OWNED others).1

        object_kept : (o : ℕ) → o < OBJECTS → x ≡ object o → goes o ≡ true → ⊥
        object_kept o lo at e =
            let own = own_index p o (goes_own o e) in
            let at' = ap spot_position at in
            (picks_outside (of_own p gone) (object_out p) _ x 0 OWNED out).0 (o - OWNED * p) (omega arith) (omega (arith, own.1))
            (rw own.0 (is_gone o lo ∙ e)) (rw own.0 at')

        directory_kept : (o : ℕ) → o < OBJECTS → x ≡ directory o → goes o ≡ true → ⊥
        directory_kept o lo at e =
            let own = own_index p o (goes_own o e) in
            let at' = ap spot_position at in
            (picks_outside (of_own p gone) (directory_out p) _ x 0 OWNED others).0 (o - OWNED * p) (omega arith) (omega (arith, own.1))
            (rw own.0 (is_gone o lo ∙ e)) (rw (own.0, own_spot p o (goes_own o e)) at')

        entry_kept : (o : ℕ) → o < OBJECTS → x ≡ remote p o → owner o ≢ p → unused o ≡ true → ⊥
        entry_kept o lo at away e =
            let at' = ap spot_position at in
            let out' = subst (λ (cs : List Change). Outside cs x) (sym (append-nil (unused_picks t p unused))) last in
            (picks_outside unused (unused_to t p) [] x 0 OBJECTS out').0 o (omega arith) (omega arith) e (rw (other_spot p o away) at')

      -- the directory of an object that stays is as it was
      directory_same : (o : ℕ) → o < OBJECTS → (goes o ≡ true → ⊥)
          → directory_record o (entry_at after (owner o) o) ≡ directory_record o (entry_at t (owner o) o)
      directory_same o lo stays = elim (ℕ_discrete (owner o) p) [
        | yes own ↦
            let is : entry_at after p o ≡ entry_at t p o = entry_after o lo ∙ rw (untrue (goes o) stays, eq-eqb (owner o) p own) in
            rw own (ap (directory_record o) is)
        | no away ↦ ap (directory_record o) (entry_elsewhere o lo (owner o) away)
      ]

      -- another's object has at p the entry it had, if it is held or was not present; its own object has no remote entry there
      remote_same : (o : ℕ) → o < OBJECTS → (owner o ≢ p → unused o ≡ true → ⊥)
          → remote_record p o (entry_at after p o) ≡ remote_record p o (entry_at t p o)
      remote_same o lo used = elim (ℕ_discrete (owner o) p) [
        | yes own ↦
            let is : entry_at after p o ≡ (if goes o then Absent else entry_at t p o) = entry_after o lo ∙ rw (eq-eqb (owner o) p own) in
            ap (remote_record p o) is ∙ at_owner (goes o) own
        | no away ↦
            let is : entry_at after p o ≡ (if holds held o then entry_at t p o else set_unused (entry_at t p o)) =
            entry_after o lo ∙ rw (ne_eqb (owner o) p away) in
            ap (remote_record p o) (is ∙ elsewhere (holds held o)
            (sym (is_unused o lo ∙ rw (ne_eqb (owner o) p away)) ∙ untrue (unused o) (used away)))
      ]
        where
          at_owner : (b : Bool) → owner o ≡ p → remote_record p o (if b then Absent else entry_at t p o) ≡ remote_record p o (entry_at t p o)
          at_owner true own = sym (proper p o (entry_at t p o) (shape.entries p o lp lo) (sym own))
          at_owner false own = refl

          elsewhere : (holding : Bool) → (not holding and is_present (entry_at t p o)) ≡ false
              → (if holding then entry_at t p o else set_unused (entry_at t p o)) ≡ entry_at t p o
          elsewhere true free = refl
          elsewhere false free = unused_already (entry_at t p o) free

      -- every other spot has what it had
      kept : (x : Spot) → x ≢ count → Outside (sweep_picks t p gone unused) x → record_at (with_count after n) x ≡ record_at t x
      unfolding heap_collected
      kept count ne out = absurd (ne refl)
      kept (object o) ne out = elim (dec_lt o OBJECTS) [
        | yes lo ↦
            let is : object_at after.heap o ≡ object_at t.heap o =
            object_after o lo ∙ rw (untrue (goes o) (object_kept (object o) out o lo refl)) in
            ap (live_record o) is
        | no high ↦ ap (live_record o) (no_object_lem o high)
      ]
      kept (roots q) ne out = refl
      kept (directory o) ne out = elim (dec_lt o OBJECTS) [
        | yes lo ↦ directory_same o lo (directory_kept (directory o) out o lo refl)
        | no high ↦ ap (λ (c : Cell). directory_record o (entry_in c (owner o))) (no_cell o high)
      ]
      kept (remote q o) ne out = elim (dec_lt o OBJECTS) [
        | yes lo ↦ elim (ℕ_discrete q p) [
          | yes at ↦ rw at (remote_same o lo (λ away. entry_kept (remote q o) out o lo (rw at refl) away))
          | no other ↦ ap (remote_record q o) (entry_elsewhere o lo q other)
        ]
        | no high ↦ ap (λ (c : Cell). remote_record q o (entry_in c q)) (no_cell o high)
      ]
      kept (message s) ne out = refl

      pub sweep_differs : Differs (count_to n ∷ sweep_picks t p gone unused) t (with_count after n)
      sweep_differs = record {
        ascends = (omega arith, (tt, ascend));
        stands = (refl, stand);
        same = λ x out. kept x (λ e. out.0 (ap spot_position e)) out.1;
      }
