-- What COLLECT's parts on the heap and by marks (specs/CollectParts.antt) come to in the definition of specs/Collect.antt, of a table whose
-- arrays have their lengths. Assumes nothing.
use Rattle.std.specs.Prelude.{◌≡◌, refl, Bool, true, false, not, ℕ, ◌<◌, ◌≤◌, ltb, length, if◌then◌else◌}
use Rattle.std.proofs.Common.{sym, ◌∙◌, arith, ltb-true, ltb-false}
use Rattle.std.proofs.Math.Path.{ap, fun_ext}
use Rattle.std.proofs.lemmas.Bool.{false≢true}
use mathlib.Core.List.{List}
use Rattle.std.proofs.Math.ListN.{get_or-eq_default}
use Rattle.std.proofs.lemmas.List.{set-get_or}
use Rattle.terms.specs.Choose.{◌and◌, ◌or◌}
use Rattle.terms.specs.Counted.{all, every, holds, list}
use Rattle.terms.specs.Limits.{OBJECTS}
use Rattle.terms.proofs.ListLaws.{get_or-list, length_list}
use Rattle.entry.specs.declared.Entry.{Entry}
use Rattle.entry.specs.declared.Entry.TheVariants.{Absent, AtOwner, Elsewhere}
use Rattle.entry.specs.declared.Remote.{Remote}
use Rattle.entry.specs.AtNode.{set_unused}
use Rattle.entry.specs.Entry.{is_present}
use Rattle.heap.specs.Heap.{is_live, is_none}
use Rattle.heap.specs.Walk.{is_marked, owned_by}
use Rattle.table.specs.declared.Cell.{Cell}
use Rattle.table.specs.declared.Table.{Table}
use Rattle.table.specs.Table.{cell_at, cell_with, entry_at, entry_in}
use Rattle.step.specs.Collect.{cell_collected, collect_torn, held_at, may_hold}
use Rattle.step.specs.CollectParts.{changes, is_whole, may_hold_by, present_at, reclaims}

-- marks of what a list holds say of each object whether it does
pub marked_held : (m : List Bool) (held : List ℕ) (o : ℕ) → o < OBJECTS → m ≡ list OBJECTS (holds held) → is_marked m o ≡ holds held o
marked_held m held o lt e = rw e (get_or-list OBJECTS (holds held) o false lt)

-- marks of what is present say so of each object
pub marked_present : (t : Table) (p o : ℕ) → o < OBJECTS → is_marked (present_at t p) o ≡ is_present (entry_at t p o)
marked_present t p o lt = get_or-list OBJECTS (λ k. is_present (entry_at t p k)) o false lt

-- past the last object too, where there is no entry
any_present : (t : Table) → length t.cells ≡ OBJECTS → (p o : ℕ) → is_marked (present_at t p) o ≡ is_present (entry_at t p o)
any_present t cells p o = go (ltb o OBJECTS) refl
  where
    go : (b : Bool) → ltb o OBJECTS ≡ b → is_marked (present_at t p) o ≡ is_present (entry_at t p o)
    go true e = marked_present t p o (ltb-true o OBJECTS e)
    go false e =
        let out : OBJECTS ≤ o = ltb-false o OBJECTS e in
        let size = length_list 0 OBJECTS (λ k. is_present (entry_at t p k)) in
        get_or-eq_default (present_at t p) false (omega (arith, size, out))
        ∙ sym (ap (λ (c : Cell). is_present (entry_in c p)) (get_or-eq_default t.cells _ (omega (arith, cells, out))))

-- so what p may hold by the marks is what it may hold
pub may_hold_by_lem : (t : Table) → length t.cells ≡ OBJECTS → (p : ℕ) → may_hold_by (present_at t p) p ≡ may_hold t p
may_hold_by_lem t cells p = fun_ext (λ (x : ℕ). ap (λ (b : Bool). is_none x or owned_by p x or b) (any_present t cells p x))

-- every kept object is live
abbrev kept_live : Table → List Bool → Bool
kept_live t marks = every OBJECTS (λ o. not (is_marked marks o) or is_live t.heap o)

-- and COLLECT finds the table torn where the test of its parts fails
pub torn_by : (t : Table) → length t.cells ≡ OBJECTS → (p : ℕ) (marks present : List Bool) (whole : Bool) → present ≡ present_at t p
    → whole ≡ is_whole t.heap p present marks → collect_torn t p marks (held_at t p marks) ≡ not whole
unfolding collect_torn
torn_by t cells p marks present whole here e =
    let held = held_at t p marks in
    ap (λ (test : ℕ → Bool). not (kept_live t marks and all test held)) (sym (may_hold_by_lem t cells p))
    ∙ ap (λ (m : List Bool). not (kept_live t marks and all (may_hold_by m p) held)) (sym here)
    ∙ ap not (sym e)

-- ---- a cell

-- an entry without Presence is unused already
pub unused_already : (e : Entry) → is_present e ≡ false → set_unused e ≡ e
unused_already Absent absent = refl
unused_already (AtOwner d) absent = refl
unused_already (Elsewhere e) absent =
    let with_presence : Bool → Remote =
    λ b. record { rc = e.rc; parent = e.parent; presence = b; msg_ctr = e.msg_ctr; ref_weight = e.ref_weight } in
    ap (λ (b : Bool). Elsewhere (with_presence b)) (sym absent)

-- so is a cell in which nothing is present at p
unused_cell : (c : Cell) (p : ℕ) → is_present (entry_in c p) ≡ false → cell_with c p (set_unused (entry_in c p)) ≡ c
unused_cell c p absent = rw (unused_already (entry_in c p) absent, set-get_or c.at p (record { held = Absent }))

module _ (c : Cell) (p : ℕ) where
  -- the cell after the collection, by the three tests: own, reclaimed, held
  abbrev after : Bool → Bool → Bool → Cell
  after own gone held =
      if own then (if gone then cell_with c p Absent else c) else (if held then c else cell_with c p (set_unused (entry_in c p)))

  -- a cell that changes is written
  written : (own gone held present : Bool) → (if own then gone else (not held and present)) ≡ true
      → cell_with c p (if own then Absent else set_unused (entry_in c p)) ≡ after own gone held
  written true true held present e = refl
  written true false held present e = absurd (false≢true e)
  written false gone true present e = absurd (false≢true e)
  written false gone false present e = refl

  -- a cell that doesn't change is left
  left : (own gone held present : Bool) → (if own then gone else (not held and present)) ≡ false → present ≡ is_present (entry_in c p)
      → c ≡ after own gone held
  left true true held present e q = absurd (false≢true (sym e))
  left true false held present e q = refl
  left false gone true present e q = refl
  left false gone false present e q = sym (unused_cell c p (sym q ∙ e))

module _ (t : Table) (p : ℕ) (marks present held : List Bool) (o : ℕ) (lt : o < OBJECTS) (here : present ≡ present_at t p)
    (holding : held ≡ list OBJECTS (holds (held_at t p marks))) where
  pub cell_changes : changes t.heap p marks present held o ≡ true
      → cell_with (cell_at t o) p (if owned_by p o then Absent else set_unused (entry_at t p o))
      ≡ cell_collected t p marks (held_at t p marks) o (cell_at t o)
  unfolding cell_collected
  cell_changes e =
      written (cell_at t o) p (owned_by p o) (reclaims t.heap p marks o) (is_marked held o) (is_marked present o) e
      ∙ ap (after (cell_at t o) p (owned_by p o) (reclaims t.heap p marks o)) (marked_held held (held_at t p marks) o lt holding)

  pub cell_stays : changes t.heap p marks present held o ≡ false → cell_at t o ≡ cell_collected t p marks (held_at t p marks) o (cell_at t o)
  unfolding cell_collected
  cell_stays e =
      left (cell_at t o) p (owned_by p o) (reclaims t.heap p marks o) (is_marked held o) (is_marked present o) e
      (ap (λ (m : List Bool). is_marked m o) here ∙ marked_present t p o lt)
      ∙ ap (after (cell_at t o) p (owned_by p o) (reclaims t.heap p marks o)) (marked_held held (held_at t p marks) o lt holding)
