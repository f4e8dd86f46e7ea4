-- NEW never hands out a number that is still named (document 02 and PROOF-PLAN: a program's place is never used too soon): of an object that
-- isn't live no root, no field of a live object, no entry and no message is left, on any node. Assumes nothing.
use Rattle.std.specs.Prelude.{◌≡◌, false, not, ℕ, ◌+◌, ◌*◌, ◌<◌, eqb, ltb}
use Rattle.std.proofs.Math.Path.{refl, ap}
use Rattle.std.proofs.Common.{sym, ◌∙◌, true≢false}
use Rattle.std.proofs.Math.Bool.{true}
use Rattle.std.proofs.Math.Decide.{ℕ_discrete}
use borrow.Author.Tests.{eq-eqb, ltb-true, not-false, not-true}
use Rattle.terms.specs.Choose.{◌and◌}
use Rattle.terms.proofs.ChooseLaws.{and_passes}
use Rattle.terms.proofs.CountedLaws.{lowest_passes}
use Rattle.terms.specs.Limits.{NODES, OBJECTS, OWNED, owner}
use Rattle.terms.specs.Numbers.{ACCEPTED}
use Rattle.entry.specs.declared.Entry.{Entry}
use Rattle.entry.specs.declared.Entry.TheVariants.{Absent, AtOwner, Elsewhere}
use Rattle.entry.specs.Entry.{is_clear, is_directory}
use Rattle.entry.specs.Fits.{fits_entry, fits_remote}
use Rattle.heap.specs.Heap.{free_own, is_live}
use Rattle.table.specs.declared.Table.{Table}
use Rattle.table.specs.ShapeLaws.{Shaped, owner_number, shaped}
use Rattle.table.specs.Table.{entry_at}
use Rattle.step.specs.Outcome.{Outcome}
use Rattle.step.specs.Event.{NEW, event, fits_event, kind_of}
use Rattle.step.specs.New.{chosen, new}
use Rattle.step.specs.Outcome.{by, value_of}
use Rattle.step.specs.Step.{common, one_more, rule_for, step}
use Rattle.laws.proofs.Events.Answered.{NoneApplies, done, met, none_applies}
use Rattle.laws.proofs.Events.DidLaws.{absent_is}
use Rattle.laws.proofs.Heap.HeapKeeps.{chosen_number}
use Rattle.laws.proofs.Heap.Holding.{WellHeld, sound_held, well_named}
use Rattle.laws.specs.Heap.Nobody.{Nobody}
use Rattle.laws.proofs.Heap.Nobody.{Bridge}
use Rattle.laws.specs.Sound.{Sound}
use Rattle.laws.specs.Heap.FreshNumber.{Unnamed}

-- ---- an object that isn't live

module _ {t : Table} (shape : Shaped t) (held : WellHeld t) (o : ℕ) (lt : o < OBJECTS) (dead : is_live t.heap o ≡ false) where
  -- it has no directory, and at the owner no other entry stands
  pub dead_unlisted : entry_at t (owner o) o ≡ Absent
  unfolding fits_entry
  dead_unlisted = go (entry_at t (owner o) o) (shape.entries (owner o) o (owner_number lt) lt) (held.directories (owner o) o (owner_number lt) lt)
    where
      go : (e : Entry) → fits_entry (owner o) o e ≡ true → (is_directory e ≡ true → is_live t.heap o ≡ true) → e ≡ Absent
      go Absent fits live = refl
      go (AtOwner d) fits live = absurd (true≢false (sym (live refl) ∙ dead))
      go (Elsewhere e) fits live =
          let away = ((and_passes (not (eqb (owner o) (owner o))) (not (eqb e.parent (owner o)) and fits_remote e)).0 fits).0 in
          absurd (true≢false (sym (eq-eqb (owner o) (owner o) refl) ∙ not-true (eqb (owner o) (owner o)) away))

  -- nothing names it
  pub dead_unnamed : Bridge t → Unnamed t o
  dead_unnamed bridge = record {
    roots = λ p r node root e. true≢false (sym (well_named t p o lt (rw e at (held.roots p r node root))).live ∙ dead);
    fields = λ x f number small live e. true≢false (sym (well_named t (owner x) o lt (rw e at (held.fields x f number small live))).live ∙ dead);
    entries = λ p node. elim (ℕ_discrete p (owner o)) [
      | yes own ↦ rw own dead_unlisted
      | no other ↦ absent_is (entry_at t p o) (nobody.entries p node other)
    ];
    messages = nobody.messages;
  }
    where
      nobody : Nobody t o
      nobody = bridge o lt (ap is_clear dead_unlisted)

-- ---- NEW

-- the object that NEW takes isn't live
pub chosen_dead : (t : Table) (p : ℕ) → free_own t.heap p < OWNED → is_live t.heap (chosen t p) ≡ false
chosen_dead t p room = not-true (is_live t.heap (chosen t p)) (lowest_passes OWNED (λ k. not (is_live t.heap (OWNED * p + k))) room)

module _ (t : Table) (p r : ℕ) (accepted : (step t (event NEW p r 0 0)).answer ≡ ACCEPTED) where
  -- none of NEW's refusals applied
  free : NoneApplies (new t p r).refusals
  unfolding kind_of rule_for new
  free = (done t (event NEW p r 0 0) accepted refl).free

  -- there was room
  room : free_own t.heap p < OWNED
  unfolding new
  room = ltb-true (free_own t.heap p) OWNED (not-false (ltb (free_own t.heap p) OWNED) free.1.0)

  -- the node is one of the field's
  node : p < NODES
  unfolding fits_event kind_of
  node = ltb-true p NODES ((and_passes (ltb p NODES) _).0 (met t (event NEW p r 0 0) accepted).operands).0

  -- the value of an accepted NEW is the object that it took
  pub new_value : value_of (step t (event NEW p r 0 0)).deed ≡ chosen t p
  unfolding step kind_of rule_for new
  new_value =
      let past = none_applies t (common t (event NEW p r 0 0)) (one_more t.count (by t (new t p r))) refl accepted in
      ap (λ (x : Outcome). value_of x.deed) past.1 ∙ rw (free.0, free.1.0, free.1.1.0)

  -- the number that NEW hands out is named by nothing
  pub new_unnamed : Sound t → Bridge t → Unnamed t (value_of (step t (event NEW p r 0 0)).deed)
  new_unnamed sound bridge =
      let number = chosen_number t p room node in
      rw new_value (dead_unnamed (shaped t sound.shape) (sound_held sound) (chosen t p) number (chosen_dead t p room) bridge)
