-- COLLECT's changes looked up one after the other, each from where the last one ended. Assumes nothing.
use Rattle.std.specs.Prelude.{◌≡◌, refl, Bool, not, List, ℕ, ◌+◌, ◌*◌, ◌≤◌, ◌<◌, eqb, if◌then◌else◌}
use Rattle.std.proofs.Math.Path.{sym, ap}
use Rattle.std.proofs.Common.{subst, ◌∙◌, arith, eq-eqb, lt-ltb}
use Rattle.std.proofs.Math.Bool.{true, false}
use Rattle.std.proofs.lemmas.Bool.{false≢true}
use Rattle.std.proofs.lemmas.List.{get_or-replicate}
use Rattle.terms.specs.Choose.{◌and◌}
use Rattle.terms.proofs.ChooseLaws.{and_passes}
use Rattle.terms.specs.Limits.{NODES, OBJECTS, OWNED, owner}
use Rattle.terms.proofs.ListLaws.{get_or-list}
use Rattle.terms.specs.Numbers.{TORN}
use Rattle.entry.specs.Entry.{is_present}
use Rattle.heap.specs.declared.Heap.{Heap}
use Rattle.heap.specs.Walk.{Marks, is_marked, owned_by}
use Rattle.table.specs.declared.Table.{Table}
use Rattle.image.specs.declared.Held.{Held}
use Rattle.image.specs.BytesLaws.{AreBytes}
use Rattle.image.specs.Find.{found_from}
use Rattle.image.specs.Order.{position}
use Rattle.image.specs.Spots.{Spot, count, object, directory, remote, spot_position}
use Rattle.splice.specs.Changed.{entry_spot}
use Rattle.splice.proofs.Changed.{own_position}
use Rattle.splice.specs.Onward.{From}
use Rattle.splice.proofs.Resumed.{from_later, from_found}
use Rattle.step.specs.CollectParts.{is_whole}
use Rattle.plan.specs.Change.{Change, Same, Sweep}
use Rattle.plan.specs.Plan.{at, entry_of}
use Rattle.plan.specs.Sweep.{heap_in, counted_in, present_of, present_in, kept_in, held_in, refused_sweep, is_unused, swept_with, sweep_with, sweep_of}
use Rattle.plan.specs.Sweep.{object_gone, directory_gone, entry_unused}
use Rattle.plan.specs.Told.{Told}
use Rattle.etzvanul.specs.Orderly.{passed}

-- what the lookups rely on: a scan may begin behind the event count, and what is no longer used are entries of other nodes' objects, which stand
-- behind all directories, with Presence true
pub record Resumes (l : List ℕ) (p : ℕ) (s : Sweep) : Type 0 where
  pub bytes : AreBytes l
  pub counted : From l 8 (position 1 0)
  pub others : (o : ℕ) → o < OBJECTS → is_marked s.unused o ≡ true → p ≡ owner o → ⊥
  pub present : (o : ℕ) → o < OBJECTS → is_marked s.unused o ≡ true → is_present (entry_of l p o) ≡ true

-- ---- so it is with what COLLECT decides

module _ (x : Heap) (present marks : Marks) (p o : ℕ) (lt : o < OBJECTS) where
  tested : is_marked (sweep_with x present marks p).unused o ≡ true → is_unused p (held_in x marks p) present o ≡ true
  unfolding sweep_with
  tested = go (not (is_whole x p present marks))
    where
      go : (b : Bool) → is_marked (if b then refused_sweep TORN else swept_with x present marks p).unused o ≡ true
          → is_unused p (held_in x marks p) present o ≡ true
      go true marked = absurd (false≢true (sym (get_or-replicate OBJECTS o false false lt) ∙ marked))
      go false marked = sym (get_or-list OBJECTS (is_unused p (held_in x marks p) present) o false lt) ∙ marked

  -- of no own object, whose test fails
  unused_other : is_marked (sweep_with x present marks p).unused o ≡ true → p ≡ owner o → ⊥
  unused_other marked own = false≢true (rw (eq-eqb (owner o) p (sym own)) at (tested marked))

  unused-present : is_marked (sweep_with x present marks p).unused o ≡ true → is_marked present o ≡ true
  unused-present marked =
      let unheld = not (is_marked (held_in x marks p) o) in
      ((and_passes unheld (is_marked present o)).0 ((and_passes (not (owned_by p o)) (unheld and is_marked present o)).0 (tested marked)).1).1

module _ (l : List ℕ) (are : AreBytes l) (t : Table) (told : Told l t) where
  -- behind the event count, which is found there
  behind_count : From l 8 (position 1 0)
  behind_count =
      let ends : (found_from 0 (spot_position count) l).after ≡ 8 = told.ends count tt ∙ told.second in
      subst (λ (at : ℕ). From l at (position 1 0)) ends (from_found l are (spot_position count) _ refl (position 1 0) (omega arith))

  pub resumes : (p : ℕ) → p < NODES → (s : Sweep) → s ≡ sweep_of l p → Resumes l p s
  unfolding sweep_of present_in
  resumes p node s is = record {
    bytes = are;
    counted = behind_count;
    others = λ o lt marked. unused_other _ _ _ p o lt (sym (same o) ∙ marked);
    present = λ o lt marked.
        let here = sym (get_or-list OBJECTS (present_of l p) o false lt) ∙ unused-present _ (present_in l p) _ p o lt (sym (same o) ∙ marked) in
        ((and_passes (not (owned_by p o)) (is_present (entry_of l p o))).0 here).1;
  }
    where
      same : (o : ℕ) → is_marked s.unused o ≡ is_marked (sweep_with (heap_in l) (present_in l p) (kept_in (heap_in l) (counted_in l p) p) p).unused o
      same o = ap (λ (x : Sweep). is_marked x.unused o) is ∙ rw (lt-ltb p NODES node)

-- ---- how a scan goes on behind a change

module _ {l : List ℕ} {p : ℕ} {s : Sweep} (r : Resumes l p s) where
  -- behind the event count
  pub first_on : From l 8 (position 1 (OWNED * p + 0))
  first_on = from_later l 8 _ _ (omega arith) r.counted

  -- of what is found at a spot, if it changes
  change_on : (b : Bool) (x : Spot) (a c : ℕ) (held : Held) (from m k : ℕ) → From l from m → m ≤ k → spot_position x < k
      → From l (passed from (if b then at (found_from 0 (spot_position x) l) a c held else Same)) k
  change_on true x a c held from m k on le lt = from_found l r.bytes (spot_position x) _ refl k lt
  change_on false x a c held from m k on le lt = from_later l from m k le on

  module _ {x : Change} {from from' : ℕ} (next : from' ≡ passed from x) where
    pub object_on : (k : ℕ) → k < OWNED → x ≡ object_gone l p s.gone k → From l from (position 1 (OWNED * p + k))
        → From l from' (position 1 (OWNED * p + (k + 1)))
    object_on k lt is on =
        let o = OWNED * p + k in
        rw (next, is) (change_on (is_marked s.gone o) (object o) _ _ _ from _ _ on (omega arith) (omega arith))

    pub directory_on : (k : ℕ) → k < OWNED → x ≡ directory_gone l p s.gone k → From l from (position 3 (OWNED * p + k))
        → From l from' (position 3 (OWNED * p + (k + 1)))
    directory_on k lt is on =
        let o = OWNED * p + k in
        let behind : spot_position (entry_spot p o) < position 3 (OWNED * p + (k + 1)) = rw (own_position p k lt) (omega arith) in
        rw (next, is) (change_on (is_marked s.gone o) (entry_spot p o) _ _ _ from _ _ on (omega arith) behind)

    pub entry_on : (o : ℕ) → o < OBJECTS → x ≡ entry_unused l p s.unused o → From l from (position 4 (256 * p + o))
        → From l from' (position 4 (256 * p + (o + 1)))
    entry_on o lt is on =
        rw (next, is) (change_on (is_marked s.unused o) (entry_spot p o) _ _ _ from _ _ on (omega arith) (behind (eqb p (owner o))))
      where
        behind : (b : Bool) → spot_position (if b then directory o else remote p o) < position 4 (256 * p + (o + 1))
        behind true = omega arith
        behind false = omega arith
