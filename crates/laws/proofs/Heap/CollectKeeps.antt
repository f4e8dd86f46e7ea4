-- COLLECT keeps what is held well so (PROOF-PLAN, "COLLECT at P keeps it"): what a root, a live object's field or a reference in the air names is
-- not reclaimed, and a remote entry of what p still holds stays in use. Here the bridge is needed. Assumes nothing.
use Rattle.std.specs.Prelude.{◌≡◌, refl, true, false, ◌⊎◌, ℕ, ◌<◌, get_or}
use Rattle.std.proofs.Common.{ap, ◌∙◌, inl, inr, ⊎_elim, eq-eqb}
use Rattle.std.proofs.Math.Bool.{not-eq-not}
use Rattle.std.proofs.Math.Decide.{ℕ_discrete}
use Rattle.terms.specs.Counted.{holds}
use Rattle.terms.specs.Limits.{NODES, OBJECTS, FIELDS, ROOTS, owner}
use Rattle.terms.proofs.ListLaws.{holds_either}
use Rattle.entry.specs.Entry.{is_directory}
use Rattle.heap.specs.declared.Object.{Object}
use Rattle.heap.specs.Heap.{field_at, is_live, root_at, roots_of}
use Rattle.heap.proofs.HeapLaws.{live_number}
use Rattle.heap.proofs.Reached.{held_by_is}
use Rattle.heap.specs.Walk.{started, through, Within, owned_by, held_by}
use Rattle.table.specs.declared.Table.{Table}
use Rattle.table.specs.Formed.{Formed}
use Rattle.table.specs.ShapeLaws.{owner_number}
use Rattle.table.specs.Table.{entry_at}
use Rattle.step.specs.Collect.{kept}
use Rattle.laws.proofs.Heap.Alive.{in_use_is}
use Rattle.laws.proofs.Heap.Collected.{collected, collected_directory, collected_elsewhere, collected_kept}
use Rattle.laws.proofs.Heap.Collected.{is_gone, is_held_at, live_after, object_stays, root_stays}
use Rattle.laws.proofs.Heap.Holding.{Named, WellHeld, roots_hold, well_is}
use Rattle.laws.proofs.Heap.Nobody.{Bridge}
use Rattle.laws.proofs.Heap.Starts.{Kept, Reclaimed, kept_is, reclaimed_is, starts_is, stays_kept}
use Rattle.laws.proofs.Heap.UsedKept.{held_counted, reclaimed_unused}
use Rattle.laws.specs.LawD.{Used}
use Rattle.laws.specs.Sound.{holds_well}

-- what cannot be reclaimed is not
not_gone : (t : Table) (p o : ℕ) → (Reclaimed t p o → ⊥) → is_gone t p o ≡ false
not_gone t p o never = not-eq-not.0 (λ gone. never ((reclaimed_is t p o).0 gone))

module _ (t : Table) (p x : ℕ) where
  -- p holds what is in its roots or in a kept object's fields
  either_holds : (holds (roots_of t.heap p) x ≡ true) ⊎ (holds (held_by t.heap (kept t p)) x ≡ true) → is_held_at t p x ≡ true
  either_holds = (holds_either (roots_of t.heap p) (held_by t.heap (kept t p)) x).1

  -- so it holds what a root names
  root_holds : (r : ℕ) → r < ROOTS → root_at t.heap p r ≡ x → is_held_at t p x ≡ true
  root_holds r lt e = either_holds (inl ((roots_hold t.heap p x).1 (r, lt, e)))

  -- and what a field of a kept object names
  field_holds : (o f : ℕ) → o < OBJECTS → f < FIELDS → Kept t p o → field_at t.heap o f ≡ x → is_held_at t p x ≡ true
  field_holds o f number lt way e =
      let marked = (kept_is t p o).1 way in
      either_holds (inr ((held_by_is t.heap (kept t p) x).1 (record { object = o; number = number; marked = marked; holder = (f, lt, e) })))

module _ {t : Table} (held : WellHeld t) (bridge : Bridge t) (formed : Formed t) (p : ℕ) where
  -- a live object that is not reclaimed stays live
  still_live : (o : ℕ) → is_live t.heap o ≡ true → is_gone t p o ≡ false → is_live (collected t p).heap o ≡ true
  still_live o live stays = ap (λ (k : Object). k.live) (object_stays t p o (live_number t.heap o formed.objects live) stays) ∙ live

  -- what q holds well it still holds well, if it is not reclaimed and, where q is p, still held
  still_well : (q x : ℕ) → holds_well t q x ≡ true → (x < OBJECTS → Named t q x → is_gone t p x ≡ false) → (q ≡ p → is_held_at t p x ≡ true)
      → holds_well (collected t p) q x ≡ true
  still_well q x well stays holding = (well_is (collected t p) q x).1 (⊎_elim inl (λ n. inr (named n)) ((well_is t q x).0 well))
    where
      named : Named t q x → Named (collected t p) q x
      named n = record { live = still_live x n.live (stays lt n); way = ⊎_elim inl (λ present. inr (rw same present)) n.way }
        where
          lt : x < OBJECTS
          lt = live_number t.heap x formed.objects n.live

          same : entry_at (collected t p) q x ≡ entry_at t q x
          same = elim (ℕ_discrete q p) [
            | yes here ↦ collected_kept t p x lt (stays lt n) (inr (holding here)) q
            | no other ↦ collected_elsewhere t p x lt q other
          ]

  -- what is used is not reclaimed
  used_stays : (x : ℕ) → Used t x → is_gone t p x ≡ false
  used_stays x way = not_gone t p x (λ gone. reclaimed_unused held bridge p x gone way)

  -- what a live object that stays holds is not reclaimed
  field_stays : (o f : ℕ) → o < OBJECTS → f < FIELDS → is_live t.heap o ≡ true → is_gone t p o ≡ false
      → field_at t.heap o f < OBJECTS → Named t (owner o) (field_at t.heap o f) → is_gone t p (field_at t.heap o f) ≡ false
  field_stays o f number lt live stays small named = not_gone t p x λ gone. gone.unreached (elim (ℕ_discrete (owner o) p) [
    | yes own ↦ through (stays_kept t p o own live stays) f lt refl (within gone)
    | no other ↦
        let counted = held_counted held bridge p (owner o) x (owner_number number) small gone.own other named in
        started (within gone) ((starts_is t p x).1 (inr counted))
  ])
    where
      x : ℕ
      x = field_at t.heap o f

      within : Reclaimed t p x → Within (owned_by p) x
      within gone = record { number = small; inside = eq-eqb (owner x) p gone.own }

  -- COLLECT at p
  pub collect_held : p < NODES → ((q o : ℕ) → q < NODES → o < OBJECTS → is_directory (entry_at t q o) ≡ true → q ≡ owner o) → WellHeld (collected t p)
  collect_held node at_owner = record {
    roots = λ q r lq lr.
        let x = root_at t.heap q r in
        let used : x < OBJECTS → Used t x = λ lt. started (record { number = lt; inside = refl }) ((in_use_is t x).1 (inl (q, lq, (r, lr, refl)))) in
        rw (root_stays t p q r)
        (still_well q x (held.roots q r lq lr) (λ lt n. used_stays x (used lt)) (λ here. root_holds t p x r lr (rw (← here))));
    fields = λ o f lo lf live.
        let (stays, was) = live_after t p o live in
        let x = field_at t.heap o f in
        let same : field_at (collected t p).heap o f ≡ x = ap (λ (k : Object). get_or k.fields f 0) (object_stays t p o lo stays) in
        rw same
        (still_well (owner o) x (held.fields o f lo lf was) (field_stays o f lo lf was stays)
        (λ own. field_holds t p x o f lo lf (stays_kept t p o own was stays) refl));
    directories = λ q o lq lo d. elim (ℕ_discrete q p) [
      | yes here ↦
          let (before, stays) = collected_directory t p o lo formed node (rw here at d) in
          still_live o (held.directories p o node lo before) stays
      | no other ↦
          let before : is_directory (entry_at t q o) ≡ true = rw (collected_elsewhere t p o lo q other) at d in
          still_live o (held.directories q o lq lo before) (not_gone t p o (λ gone. other (at_owner q o lq lo before ∙ gone.own)))
    ];
    references = λ s o ls h.
        let live = held.references s o ls h in
        let lt = live_number t.heap o formed.objects live in
        still_live o live (used_stays o (started (record { number = lt; inside = refl }) ((in_use_is t o).1 (inr (s, ls, h)))));
  }
