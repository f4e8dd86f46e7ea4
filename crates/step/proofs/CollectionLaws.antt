-- What COLLECT comes to by the collection that the code makes: where it is refused, and what each cell is after it. Assumes nothing.
use Rattle.std.specs.Prelude.{◌≡◌, refl, Bool, true, false, not, ℕ, ◌<◌, length, Result, Ok, Err, if◌then◌else◌, IfErr, IfOk}
use Rattle.std.proofs.Common.{sym, ap, ◌∙◌}
use Rattle.std.proofs.lemmas.Bool.{false≢true}
use Rattle.terms.specs.Choose.{◌and◌}
use Rattle.terms.proofs.ChooseLaws.{and_passes}
use Rattle.terms.specs.Counted.{how_many, list}
use Rattle.terms.specs.Limits.{OBJECTS}
use Rattle.terms.specs.Numbers.{TORN}
use Rattle.terms.specs.Refusals.{number_of}
use Rattle.terms.specs.declared.Refusal.{Refusal}
use Rattle.terms.specs.declared.Refusal.TheVariants.{Torn}
use Rattle.entry.specs.declared.Entry.TheVariants.{Absent}
use Rattle.entry.specs.AtNode.{set_unused}
use Rattle.heap.specs.declared.Heap.{Heap}
use Rattle.heap.specs.Walk.{is_marked, owned_by}
use Rattle.table.specs.declared.Table.{Table}
use Rattle.table.specs.Table.{cell_at, cell_with, entry_at, with_cells, with_heap}
use Rattle.step.specs.declared.Collection.{Collection}
use Rattle.step.specs.Deed.{Collected}
use Rattle.step.specs.Outcome.{by, did, refused}
use Rattle.step.specs.Collect.{cell_collected, collect, collect_holding, collect_keeping, counted, heap_collected, held_at, kept}
use Rattle.step.specs.CollectLaws.{cell_changes, cell_stays, torn_by}
use Rattle.step.specs.CollectParts.{collection_at, collection_of, held_marks, is_unused, is_whole, present_at, reclaims, without_reclaimed}

-- the tests of a cell: its object is the node's own, it is reclaimed, something holds it, and it is there
unused_others : (own held there : Bool) → (not own and not held and there) ≡ true → (own ≡ false) × ((not held and there) ≡ true)
unused_others true held there goes = absurd (false≢true goes)
unused_others false held there goes = (refl, goes)

unchanged : (own gone held there : Bool) → gone ≡ false → (not own and not held and there) ≡ false
    → (if own then gone else (not held and there)) ≡ false
unchanged true gone held there stays still = stays
unchanged false gone held there stays still = still

module _ (t : Table) (size : length t.cells ≡ OBJECTS) (p : ℕ) where
  whole : Bool
  whole = is_whole t.heap p (present_at t p) (kept t p)

  collect-by : by t (collect t p) ≡ (if not whole then refused t TORN else (collect t p).effect)
  unfolding whole collect_keeping collect_holding
  collect-by = rw (torn_by t size p (kept t p) (present_at t p) whole refl refl) refl

  -- what the code asks is what COLLECT's rule is refused for
  pub asked : (r : Result Collection Refusal) → r ≡ collection_of t.heap p (counted t p) (record { seen = present_at t p })
      → IfOk r (λ c. (c ≡ collection_at t p) × (by t (collect t p) ≡ (collect t p).effect))
      × IfErr r (λ e. refused t (number_of e) ≡ by t (collect t p))
  unfolding whole collection_of
  asked r is = rw is (go whole (rw collect-by))
    where
      go : (b : Bool) → by t (collect t p) ≡ (if not b then refused t TORN else (collect t p).effect)
          → IfOk (if b then Ok (collection_at t p) else Err Torn) (λ c. (c ≡ collection_at t p) × (by t (collect t p) ≡ (collect t p).effect))
          × IfErr (if b then Ok (collection_at t p) else Err Torn) (λ e. refused t (number_of e) ≡ by t (collect t p))
      go true done = ((refl, done), tt)
      go false torn = (tt, sym torn)

  -- ---- a cell

  module _ (o : ℕ) (lt : o < OBJECTS) where
    -- the directory of a reclaimed object goes with it
    pub cell_reclaimed : reclaims t.heap p (kept t p) o ≡ true
        → cell_with (cell_at t o) p Absent ≡ cell_collected t p (kept t p) (held_at t p (kept t p)) o (cell_at t o)
    unfolding cell_collected
    cell_reclaimed goes =
        let own : owned_by p o ≡ true = ((and_passes _ _).0 goes).0 in
        rw (goes, own) refl

    -- a remote entry that nothing holds gets Presence false
    pub cell_unused : is_unused p (present_at t p) (held_marks t.heap p (kept t p)) o ≡ true
        → cell_with (cell_at t o) p (set_unused (entry_at t p o)) ≡ cell_collected t p (kept t p) (held_at t p (kept t p)) o (cell_at t o)
    cell_unused goes =
        let held = held_marks t.heap p (kept t p) in
        let unused = unused_others (owned_by p o) (is_marked held o) (is_marked (present_at t p) o) goes in
        rw unused.0 at (cell_changes t p (kept t p) (present_at t p) held o lt refl refl (rw unused.0 unused.1))

    -- every other entry stays
    pub cell_left : reclaims t.heap p (kept t p) o ≡ false → is_unused p (present_at t p) (held_marks t.heap p (kept t p)) o ≡ false
        → cell_at t o ≡ cell_collected t p (kept t p) (held_at t p (kept t p)) o (cell_at t o)
    cell_left stays still =
        let held = held_marks t.heap p (kept t p) in
        cell_stays t p (kept t p) (present_at t p) held o lt refl refl
        (unchanged (owned_by p o) _ (is_marked held o) (is_marked (present_at t p) o) stays still)

  -- ---- the table

  -- with each cell as it is to be, and the heap without its reclaimed objects, it is the table after the collection
  pub collect-effect : (c : Collection) → c ≡ collection_at t p → (now : Table) → with_cells now t.cells ≡ t
      → now.cells ≡ list OBJECTS (λ o. cell_collected t p (kept t p) (held_at t p (kept t p)) o (cell_at t o))
      → (h : Heap) → h ≡ without_reclaimed c.heap c.node c.kept.seen → (n : ℕ) → n ≡ how_many OBJECTS (reclaims c.heap c.node c.kept.seen)
      → did (Collected n) (with_heap now h) ≡ (collect t p).effect
  unfolding collect_keeping collect_holding heap_collected
  collect-effect c made now others cells h heap n count =
      ap (λ (x : Table). did (Collected n) (with_cells (with_heap x h) now.cells)) others ∙ rw (cells, heap, count, made) refl
