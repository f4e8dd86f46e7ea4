-- No event meets a torn heap (PROOF-PLAN, "From 1 to 4, no event is TORN"; the counts' side is apart): where all is held well, each condition
-- of TORN that speaks of live objects and of Presence fails once the lower refusals have failed. The bridge is not needed. Assumes nothing.
use Rattle.std.specs.Prelude.{◌≡◌, Bool, List, [], ◌∷◌, ℕ, ◌<◌}
use Rattle.std.proofs.Math.Path.{refl}
use Rattle.std.proofs.Common.{sym, ap, true≢false, inl, inr, ⊎_elim, eqb-true}
use Rattle.std.proofs.Math.Bool.{true, false, not}
use Rattle.std.proofs.lemmas.Bool.{false≢true, eqb-false}
use Rattle.terms.specs.Choose.{◌and◌, ◌or◌}
use Rattle.terms.specs.Counted.{all, holds}
use Rattle.terms.specs.CountedLaws.{Some}
use Rattle.terms.proofs.CountedLaws.{every_all}
use Rattle.terms.specs.Limits.{NODES, OBJECTS, OWNED, PLACES, ROOTS, owner}
use Rattle.terms.proofs.ListLaws.{holds_either, holds_first}
use Rattle.entry.specs.declared.Entry.{Entry}
use Rattle.entry.specs.declared.Entry.TheVariants.{Absent, AtOwner, Elsewhere}
use Rattle.entry.specs.Entry.{is_absent, is_clear, is_directory, is_present}
use Rattle.entry.specs.Fits.{fits_entry}
use Rattle.entry.specs.FitsLaws.{away}
use Rattle.heap.specs.Heap.{free_own, is_live, is_none, root_at, roots_of}
use Rattle.heap.proofs.Reached.{held_by_is, reached_within}
use Rattle.heap.specs.Walk.{started, through, held_by, is_marked, owned_by}
use Rattle.table.specs.declared.Message.TheVariants.{Reference}
use Rattle.table.specs.declared.Table.{Table}
use Rattle.table.specs.ShapeLaws.{Shaped, root_object}
use Rattle.table.specs.Table.{entry_at, message_at}
use Rattle.step.specs.Collect.{collect_torn, held_at, kept, may_hold}
use Rattle.step.specs.New.{chosen}
use Rattle.step.specs.Send.{is_dead_own}
use Rattle.laws.proofs.Heap.FreshNumber.{chosen_dead, dead_unlisted}
use Rattle.laws.proofs.Heap.HeapKeeps.{chosen_number, chosen_own}
use Rattle.laws.proofs.Heap.HeldAfter.{reference_live, root_live}
use Rattle.laws.proofs.Heap.Holding.{WellHeld, roots_hold, well_named}
use Rattle.laws.specs.Heap.Starts.{Counted}
use Rattle.laws.proofs.Heap.Starts.{Kept, kept_is, starts_is}
use Rattle.laws.specs.Sound.{holds_well}

-- a live object is no dead one of the node's own
live_not_dead : (t : Table) (p o : ℕ) → is_live t.heap o ≡ true → is_dead_own t p o ≡ false
live_not_dead t p o live = go (owned_by p o)
  where
    go : (b : Bool) → (b and not (is_live t.heap o)) ≡ false
    go true = rw live
    go false = refl

-- what is held well may be held
well_may : (t : Table) (p x : ℕ) → holds_well t p x ≡ true → may_hold t p x ≡ true
well_may t p x well = go (is_none x) (is_live t.heap x) well
  where
    go : (none live : Bool) → (none or (live and (owned_by p x or is_present (entry_at t p x)))) ≡ true
        → (none or owned_by p x or is_present (entry_at t p x)) ≡ true
    go true live e = refl
    go false true e = e
    go false false e = absurd (false≢true e)

-- a list passes where all that it holds does
all_held : (test : ℕ → Bool) (xs : List ℕ) → ((x : ℕ) → holds xs x ≡ true → test x ≡ true) → all test xs ≡ true
unfolding all
all_held test [] each = refl
all_held test (x ∷ xs) each = rw (each x ((holds_first x xs x).1 (inl refl))) (all_held test xs (λ y l. each y ((holds_first x xs y).1 (inr l))))

module _ {t : Table} (shape : Shaped t) (held : WellHeld t) where
  -- RECEIVE: the object is live, at the owner as elsewhere
  pub receive_alive : (s : ℕ) {from to o : ℕ} → s < PLACES → message_at t s ≡ Reference from to o → is_dead_own t to o ≡ false
  receive_alive s {to = to} {o = o} place there = live_not_dead t to o (reference_live held s place there)

  module _ (p : ℕ) (node : p < NODES) where
    -- NEW: the chosen object has no directory
    pub new_unlisted : free_own t.heap p < OWNED → is_absent (entry_at t p (chosen t p)) ≡ true
    new_unlisted room =
        let none = dead_unlisted shape held (chosen t p) (chosen_number t p room node) (chosen_dead t p room) in
        ap is_absent (rw (chosen_own t p room) at none)

    -- what a root names that isn't empty (LOAD, STORE: that it is live says `root_live` of proofs/Heap/HeldAfter.antt)
    module _ (r : ℕ) (root : r < ROOTS) (named : is_none (root_at t.heap p r) ≡ false) where
      -- SEND: it is no dead one of the node's own
      pub send_alive : is_dead_own t p (root_at t.heap p r) ≡ false
      send_alive = live_not_dead t p (root_at t.heap p r) (root_live held shape p r node root named)

      -- and of another's the node has an entry with Presence true
      pub send_present : owned_by p (root_at t.heap p r) ≡ false → is_present (entry_at t p (root_at t.heap p r)) ≡ true
      send_present away =
          let x = root_at t.heap p r in
          ⊎_elim (λ own. absurd (eqb-false (owner x) p away own)) (λ present. present)
          (well_named t p x (root_object t shape p r node root named) (held.roots p r node root)).way

    -- ---- COLLECT

    -- an object of p whose directory is not clear is live
    counted_live : (o : ℕ) → o < OBJECTS → Counted t p o → is_live t.heap o ≡ true
    counted_live o lt c = go (entry_at t p o) (shape.entries p o node lt) (held.directories p o node lt) c.unclear
      where
        go : (e : Entry) → fits_entry p o e ≡ true → (is_directory e ≡ true → is_live t.heap o ≡ true) → is_clear e ≡ false → is_live t.heap o ≡ true
        go Absent fits live clear = absurd (true≢false clear)
        go (AtOwner d) fits live clear = live refl
        go (Elsewhere e) fits live clear = absurd ((away p o e fits).elsewhere (sym c.own))

    -- what is kept is live
    pub kept_live_lem : {o : ℕ} → Kept t p o → is_live t.heap o ≡ true
    kept_live_lem {o} (started w l) = ⊎_elim by_root (counted_live o w.number) ((starts_is t p o).0 l)
      where
        by_root : Some ROOTS (λ r. root_at t.heap p r ≡ o) → is_live t.heap o ≡ true
        by_root y = (well_named t p o w.number (rw y.2 at (held.roots p y.0 node y.1))).live
    kept_live_lem {o} (through {x = y} way f lt e w) =
        (well_named t (owner y) o w.number (rw e at (held.fields y f (reached_within way).number lt (kept_live_lem way)))).live

    -- what a root or a kept object holds, p may hold
    held_may : (x : ℕ) → holds (held_at t p (kept t p)) x ≡ true → may_hold t p x ≡ true
    held_may x l = well_may t p x (⊎_elim by_root by_field ((holds_either (roots_of t.heap p) (held_by t.heap (kept t p)) x).0 l))
      where
        by_root : holds (roots_of t.heap p) x ≡ true → holds_well t p x ≡ true
        by_root l = let (r, lt, e) = (roots_hold t.heap p x).0 l in rw e at (held.roots p r node lt)

        by_field : holds (held_by t.heap (kept t p)) x ≡ true → holds_well t p x ≡ true
        by_field l =
            let y = (held_by_is t.heap (kept t p) x).0 l in
            let (f, lt, e) = y.holder in
            let way = (kept_is t p y.object).0 y.marked in
            let own = eqb-true (owner y.object) p (reached_within way).inside in
            rw (e, own) at (held.fields y.object f y.number lt (kept_live_lem way))

    -- COLLECT is not torn
    pub collect_whole : collect_torn t p (kept t p) (held_at t p (kept t p)) ≡ false
    unfolding collect_torn
    collect_whole =
        let each = every_all OBJECTS (λ o. not (is_marked (kept t p) o) or is_live t.heap o) marked_live in
        rw (each, all_held (may_hold t p) (held_at t p (kept t p)) held_may)
      where
        marked_live : (o : ℕ) → o < OBJECTS → (not (is_marked (kept t p) o) or is_live t.heap o) ≡ true
        marked_live o lt = go (is_marked (kept t p) o) (λ on. kept_live_lem ((kept_is t p o).0 on))
          where
            go : (b : Bool) → (b ≡ true → is_live t.heap o ≡ true) → (not b or is_live t.heap o) ≡ true
            go true live = live refl
            go false live = refl
