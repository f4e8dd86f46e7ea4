-- COLLECT on an image that tells of a table (Told) is COLLECT on that table: the same answer and deed, and what `gone` and `unused` name is what
-- the collection changes, record by record. Assumes nothing.
use Rattle.std.specs.Prelude.{◌≡◌, Bool, true, List, ◌∷◌, ℕ, ◌+◌, ◌*◌, ◌<◌, if◌then◌else◌}
use Rattle.std.proofs.Math.Path.{refl, sym, ap}
use Rattle.std.proofs.Common.{subst, ◌∙◌, arith}
use Rattle.std.proofs.Math.Bool.{false, not}
use Rattle.std.proofs.lemmas.Bool.{false≢true}
use borrow.Author.Tests.{eq-eqb, eqb-true, lt-ltb}
use Rattle.terms.specs.Choose.{◌and◌}
use Rattle.terms.specs.Counted.{holds, how_many}
use Rattle.terms.specs.Limits.{NODES, OBJECTS, OWNED, owner}
use Rattle.terms.proofs.ListLaws.{get_or-list, length_list, list_is}
use Rattle.terms.specs.Numbers.{ACCEPTED, TORN}
use Rattle.entry.specs.declared.Entry.{Entry}
use Rattle.entry.specs.declared.Entry.TheVariants.{Absent, AtOwner, Elsewhere}
use Rattle.entry.specs.Entry.{is_clear, is_present}
use Rattle.entry.specs.Fits.{fits_entry}
use Rattle.heap.specs.Walk.{is_marked, owned_by}
use Rattle.table.specs.declared.Table.{Table}
use Rattle.table.specs.Table.{entry_at, with_count}
use Rattle.splice.specs.Events.{count_to}
use Rattle.splice.specs.Patched.{Change, Differs}
use Rattle.step.specs.Deed.{Collected}
use Rattle.step.specs.Outcome.{Outcome, by, did, refused}
use Rattle.step.specs.Collect.{collect, collect_holding, collect_keeping, counted, held_at, is_reclaimed, kept, with_collected}
use Rattle.step.specs.CollectLaws.{marked_held, marked_present, torn_by}
use Rattle.step.specs.CollectParts.{is_whole, present_at}
use Rattle.plan.specs.Change.{Sweep}
use Rattle.plan.specs.Plan.{object_of, roots_of, entry_of}
use Rattle.plan.specs.Sweep.{counted_in, heap_in, held_in, present_of, present_in, refused_sweep, sweep_of, sweep_with, swept_with, is_unused}
use Rattle.plan.specs.SweepDiffers.{sweep_picks, sweep_differs}
use Rattle.plan.specs.Told.{Told}

-- an own object's entry is no remote one
no_presence : (p o : ℕ) (e : Entry) → p ≡ owner o → fits_entry p o e ≡ true → is_present e ≡ false
unfolding fits_entry
no_presence p o Absent here fits = refl
no_presence p o (AtOwner d) here fits = refl
no_presence p o (Elsewhere e) here fits = absurd (false≢true (rw (eq-eqb p (owner o) here) at fits))

only_others : (p o : ℕ) (e : Entry) → fits_entry p o e ≡ true → (not (owned_by p o) and is_present e) ≡ is_present e
only_others p o e fits = go (owned_by p o) refl
  where
    go : (b : Bool) → owned_by p o ≡ b → (not b and is_present e) ≡ is_present e
    go true own = sym (no_presence p o e (sym (eqb-true (owner o) p own)) fits)
    go false own = refl

module _ (l : List ℕ) (t : Table) (told : Told l t) where
  -- ---- what is asked

  pub heap_told : heap_in l ≡ t.heap
  unfolding heap_in
  heap_told =
      let formed = told.formed in
      let objects = list_is OBJECTS (object_of l) _ t.heap.objects formed.objects (λ o lt. sym (told.objects o lt)) in
      let roots = list_is NODES (roots_of l) _ t.heap.roots formed.nodes (λ p lt. sym (told.roots p lt)) in
      rw (← objects, ← roots)

  module _ (p : ℕ) (node : p < NODES) where
    pub counted_told : counted_in l p ≡ counted t p
    unfolding counted_in counted
    counted_told =
        list_is OWNED (λ k. not (is_clear (entry_at t p (OWNED * p + k)))) false (counted_in l p)
        (length_list 0 OWNED (λ k. not (is_clear (entry_of l p (OWNED * p + k)))))
        (λ k lt. get_or-list OWNED (λ i. not (is_clear (entry_of l p (OWNED * p + i)))) k false lt
        ∙ ap (λ (e : Entry). not (is_clear e)) (told.entries p (OWNED * p + k) node (omega arith)))

    pub present_told : present_in l p ≡ present_at t p
    unfolding present_in
    present_told =
        list_is OBJECTS (λ o. is_present (entry_at t p o)) false (present_in l p) (length_list 0 OBJECTS (present_of l p))
        (λ o lt. get_or-list OBJECTS (present_of l p) o false lt
        ∙ ap (λ (e : Entry). not (owned_by p o) and is_present e) (told.entries p o node lt)
        ∙ only_others p o (entry_at t p o) (told.shape.entries p o node lt))

    -- so the sweep is that of the table's heap
    sweep_told : sweep_of l p ≡ sweep_with t.heap (present_at t p) (kept t p) p
    unfolding sweep_of
    sweep_told = rw (heap_told, counted_told, present_told, lt-ltb p NODES node)

    -- ---- what is decided

    -- the collection on the table goes by the same test
    abbrev whole : Bool
    whole = is_whole t.heap p (present_at t p) (kept t p)

    abbrev done : Outcome
    done = did (Collected (how_many OBJECTS (is_reclaimed t p (kept t p)))) (with_collected t p (kept t p) (held_at t p (kept t p)))

    collect-by : by t (collect t p) ≡ (if not whole then refused t TORN else done)
    unfolding collect_keeping collect_holding
    collect-by = rw (torn_by t told.formed.cells p (kept t p) (present_at t p) whole refl refl)

    abbrev swept : Sweep
    swept = swept_with t.heap (present_at t p) (kept t p) p

    sweep_by : sweep_of l p ≡ (if not whole then refused_sweep TORN else swept)
    unfolding sweep_with
    sweep_by = sweep_told

    pub sweep_answer : (sweep_of l p).answer ≡ (by t (collect t p)).answer
    sweep_answer = ap (λ (s : Sweep). s.answer) sweep_by ∙ go (not whole) ∙ sym (ap (λ (o : Outcome). o.answer) collect-by)
      where
        go : (b : Bool) → (if b then refused_sweep TORN else swept).answer ≡ (if b then refused t TORN else done).answer
        go true = refl
        go false = refl

    -- accepted, nothing is torn
    module _ (taken : (sweep_of l p).answer ≡ ACCEPTED) where
      passes : not whole ≡ false
      passes = go (not whole) (sym (ap (λ (s : Sweep). s.answer) sweep_by) ∙ taken)
        where
          go : (b : Bool) → (if b then refused_sweep TORN else swept).answer ≡ ACCEPTED → b ≡ false
          go true is = absurd (omega arith)
          go false is = refl

      sweep_is : sweep_of l p ≡ swept
      sweep_is = sweep_by ∙ ap (λ (b : Bool). if b then refused_sweep TORN else swept) passes

      collect_is : by t (collect t p) ≡ done
      collect_is = collect-by ∙ ap (λ (b : Bool). if b then refused t TORN else done) passes

      pub sweep_deed : (by t (collect t p)).deed ≡ Collected (sweep_of l p).reclaimed
      sweep_deed = ap (λ (o : Outcome). o.deed) collect_is ∙ sym (ap (λ (s : Sweep). Collected s.reclaimed) sweep_is)

      pub sweep_table : (by t (collect t p)).table ≡ with_collected t p (kept t p) (held_at t p (kept t p))
      sweep_table = ap (λ (o : Outcome). o.table) collect_is

      module _ (o : ℕ) (lt : o < OBJECTS) where
        -- the objects that go
        pub gone_told : is_marked (sweep_of l p).gone o ≡ is_reclaimed t p (kept t p) o
        gone_told =
            ap (λ (s : Sweep). is_marked s.gone o) sweep_is ∙ get_or-list OBJECTS (is_reclaimed t p (kept t p)) o false lt

        -- the objects of others whose entry is no longer used
        pub unused_told : is_marked (sweep_of l p).unused o
            ≡ (not (owned_by p o) and not (holds (held_at t p (kept t p)) o) and is_present (entry_at t p o))
        unused_told =
            let present = present_at t p in
            let held = held_in t.heap (kept t p) p in
            ap (λ (s : Sweep). is_marked s.unused o) sweep_is
            ∙ get_or-list OBJECTS (is_unused p held present) o false lt
            ∙ ap (λ (b : Bool). not (owned_by p o) and not b and is_marked present o) (marked_held held (held_at t p (kept t p)) o lt refl)
            ∙ ap (λ (b : Bool). not (owned_by p o) and not (holds (held_at t p (kept t p)) o) and b) (marked_present t p o lt)

      -- so the table after it has these other records
      abbrev pub swept_patch : List Change
      swept_patch = count_to (t.count + 1) ∷ sweep_picks t p (is_marked (sweep_of l p).gone) (is_marked (sweep_of l p).unused)

      pub swept_differs : Differs swept_patch t (with_count (by t (collect t p)).table (t.count + 1))
      swept_differs =
          subst (λ (u : Table). Differs swept_patch t (with_count u (t.count + 1))) (sym sweep_table)
          (sweep_differs t told.formed p node (kept t p) (held_at t p (kept t p)) told.shape
          (is_marked (sweep_of l p).gone) (is_marked (sweep_of l p).unused) gone_told unused_told (t.count + 1))
