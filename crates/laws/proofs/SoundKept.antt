-- Every accepted event keeps Sound, so Sound always holds, from the fresh table on. Assumes nothing.
use Rattle.std.specs.Prelude.{◌≡◌, true, ℕ, ◌<◌}
use Rattle.std.proofs.Common.{sym, inl, inr, ⊎_elim}
use Rattle.terms.specs.Limits.{OBJECTS}
use Rattle.table.specs.declared.Table.{Table}
use Rattle.table.specs.Formed.{Formed}
use Rattle.table.specs.Fresh.{fresh_formed, fresh_shape}
use Rattle.table.specs.Shape.{fits_table}
use Rattle.table.specs.ShapeLaws.{reference_way, decrement_way, shaped}
use Rattle.step.specs.Step.{step}
use Rattle.laws.proofs.Counting.ClearLaws.{clear_means_nobody}
use Rattle.laws.proofs.Counting.CountsKept.{Counted, counted_fresh, counted_kept, counted_lawful, counted_within}
use Rattle.laws.proofs.Counting.InRange.{receives_in_range, sends_in_range, settles_in_range}
use Rattle.laws.specs.Counting.Lawful.{Lawful}
use Rattle.laws.proofs.Counting.LinkCollect.{change}
use Rattle.laws.specs.Counting.Within.{Within}
use Rattle.laws.proofs.Events.DidLaws.{count_after}
use Rattle.laws.proofs.Events.KeepsShape.{keeps_form, keeps_shape}
use Rattle.laws.proofs.Events.Kept.{Keeps, always}
use Rattle.laws.proofs.Heap.FreshHeld.{fresh_held}
use Rattle.laws.proofs.Heap.HeldAfter.{held_after}
use Rattle.laws.proofs.Heap.Holding.{WellHeld, sound_held}
use Rattle.laws.proofs.Heap.Nobody.{Bridge}
use Rattle.laws.proofs.NotTorn.{CountsWhole}
use Rattle.laws.specs.Sequence.{Always}
use Rattle.laws.specs.Sound.{Sound}

-- ---- Sound is the shape, the counts' part and the heap's part

-- the counts' part
pub counted_of : {t : Table} → Sound t → Counted t
counted_of sound =
    record { law_a = sound.law_a; law_b = sound.law_b; law_c = sound.law_c; counts = sound.counts; returns = sound.returns; owed = sound.owed }

-- all parts together
all_sound : {t : Table} → Formed t → fits_table t ≡ true → Counted t → WellHeld t → Sound t
all_sound formed shape counted held = record {
  formed = formed;
  shape = shape;
  law_a = counted.law_a;
  law_b = counted.law_b;
  law_c = counted.law_c;
  roots = held.roots;
  fields = held.fields;
  directories = held.directories;
  references = held.references;
  counts = counted.counts;
  returns = counted.returns;
  owed = counted.owed;
}

-- ---- what the counts give the heap

-- clear means nobody
pub sound_bridge : {t : Table} → Sound t → Bridge t
sound_bridge {t} sound o lt = clear_means_nobody t o sound.shape lt (counted_lawful t sound.shape (counted_of sound) o lt)

-- no act is refused for its counts
pub sound_counts : {t : Table} → Sound t → CountsWhole t
sound_counts {t} sound = record {
  sends = λ p q o node receiver apart lt left way.
      sends_in_range t o sound.shape lt (lawful o lt) t.count left (within o lt) p q node (⊎_elim (λ own. inl (sym own)) inr way);
  receives = λ s {from} {to} {o} place left there.
      let lt = (reference_way t (shaped t sound.shape) s place there).object in
      receives_in_range t o sound.shape lt (lawful o lt) t.count left (within o lt) s from to place there;
  settles = λ s {from} {to} {o} {m} {n} place left there.
      let lt = (decrement_way t (shaped t sound.shape) s place there).object in
      settles_in_range t o sound.shape lt (lawful o lt) t.count left (within o lt) s from to m n place there;
}
  where
    lawful : (o : ℕ) → o < OBJECTS → Lawful t o
    lawful = counted_lawful t sound.shape (counted_of sound)

    within : (o : ℕ) → o < OBJECTS → Within t.count t o
    within = counted_within t sound.shape (counted_of sound)

-- ---- every accepted event

-- Sound before, Sound after
pub keeps_sound : Keeps Sound
keeps_sound t e formed accepted sound =
    let shape = keeps_shape t e formed accepted in
    all_sound (keeps_form t e formed accepted) shape
    (counted_kept t (step t e).table sound.shape shape (count_after t e accepted) (change t e formed accepted) (counted_of sound))
    (held_after formed (sound_held sound) (sound_bridge sound) e accepted)

-- Sound always holds
pub always_sound : Always Sound
always_sound = always keeps_sound (all_sound fresh_formed fresh_shape (counted_fresh fresh_shape) fresh_held)
