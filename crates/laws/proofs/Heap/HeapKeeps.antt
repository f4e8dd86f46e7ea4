-- The events that move names about on one node keep what is held well so: NEW, MOVE, CLEAR, LOAD and STORE (PROOF-PLAN, "The field"). None of
-- them needs the counting. Assumes nothing.
use Rattle.std.specs.Prelude.{◌≡◌, refl, true, ◌⊎◌, ℕ, ◌<◌, get_or, length, set}
use Rattle.std.proofs.Common.{sym, ap, ◌∙◌, inl, inr, ⊎_elim, arith, get_or-set_same}
use Rattle.std.proofs.lemmas.List.{get_or-replicate}
use Rattle.terms.specs.Limits.{NODES, OBJECTS, OWNED, FIELDS, NONE, owner}
use Rattle.terms.proofs.SetLaws.{set_either}
use Rattle.heap.specs.declared.Object.{Object}
use Rattle.heap.specs.Heap.{born, field_at, free_own, is_live, object_at, with_field, with_object, with_root}
use Rattle.table.specs.declared.Table.{Table}
use Rattle.table.specs.NewOrSame.{object_either, root_either}
use Rattle.table.specs.Table.{with_count, with_heap}
use Rattle.step.specs.New.{chosen, with_new}
use Rattle.laws.proofs.Heap.Growing.{Keeps, grows_held, keeps_well}
use Rattle.laws.proofs.Heap.Holding.{WellHeld, well_is}
use Rattle.laws.specs.Sound.{holds_well}

-- the event count has no part in it
pub count_held : {u : Table} (n : ℕ) → WellHeld u → WellHeld (with_count u n)
count_held n held = record { roots = held.roots; fields = held.fields; directories = held.directories; references = held.references }

-- the object that NEW takes is one of the node's own
module _ (t : Table) (p : ℕ) (room : free_own t.heap p < OWNED) where
  -- p owns it
  pub chosen_own : owner (chosen t p) ≡ p
  chosen_own = omega arith

  -- and it has an object number
  pub chosen_number : p < NODES → chosen t p < OBJECTS
  chosen_number node = omega arith

module _ {t : Table} (held : WellHeld t) where
  -- MOVE, CLEAR, LOAD: a root takes what its node holds well
  pub root_held : (p r x : ℕ) → holds_well t p x ≡ true → WellHeld (with_heap t (with_root t.heap p r x))
  root_held p r x well = grows_held held (record {
    keeps = record { live = λ a l. l; present = λ q a h. h };
    roots = λ q s. ⊎_elim (λ new. inr (rw (new.1, new.0) well)) inl (root_either t.heap p r x q s);
    fields = λ o f lt live. inl (live, refl);
    directories = λ q o d. inl d;
    references = λ s o h. inl h;
  })

  -- STORE: a field of a live object takes what the object's node holds well
  pub field_held : (o f x : ℕ) → holds_well t (owner o) x ≡ true → WellHeld (with_heap t (with_field t.heap o f x))
  field_held o f x well = grows_held held (record {
    keeps = keeps;
    roots = λ q s. inl refl;
    fields = λ a g lt live. ⊎_elim
        (λ new. changed a g live new.0 new.1)
        (λ same. inl (sym (ap (λ (k : Object). k.live) same) ∙ live, ap (λ (k : Object). get_or k.fields g 0) same))
        (object_either t.heap o after a);
    directories = λ q a d. inl d;
    references = λ s a h. inl h;
  })
    where
      after : Object
      after = record { live = is_live t.heap o; fields = set (object_at t.heap o).fields f x }

      u : Table
      u = with_heap t (with_field t.heap o f x)

      live_same : (a : ℕ) → is_live (with_field t.heap o f x) a ≡ is_live t.heap a
      live_same a = ⊎_elim
          (λ new. ap (λ (k : Object). k.live) new.1 ∙ rw new.0)
          (λ same. ap (λ (k : Object). k.live) same)
          (object_either t.heap o after a)

      keeps : Keeps t u
      keeps = record { live = λ a l. live_same a ∙ l; present = λ q a h. h }

      changed : (a g : ℕ) → is_live u.heap a ≡ true → a ≡ o → object_at u.heap a ≡ after
          → ((is_live t.heap a ≡ true) × (field_at u.heap a g ≡ field_at t.heap a g)) ⊎ (holds_well u (owner a) (field_at u.heap a g) ≡ true)
      changed a g live same e =
          let there : field_at u.heap a g ≡ get_or (set (object_at t.heap o).fields f x) g 0 = ap (λ (k : Object). get_or k.fields g 0) e in
          ⊎_elim (λ new. inr (rw (there ∙ new.1, same) (keeps_well keeps (owner o) x well)))
          (λ old. inl (sym (live_same a) ∙ live, there ∙ old ∙ rw same))
          (set_either (object_at t.heap o).fields f g x 0)

  -- NEW: an object becomes live, its fields empty, and a root of its node names it
  pub new_held : (p r o : ℕ) → o < length t.heap.objects → owner o ≡ p → WellHeld (with_new t p r o)
  new_held p r o lt own = grows_held held (record {
    keeps = record {
      live = λ a l. ⊎_elim (λ new. ap (λ (k : Object). k.live) new.1) (λ same. ap (λ (k : Object). k.live) same ∙ l) (either a);
      present = λ q a h. h;
    };
    roots = λ q s. ⊎_elim (λ new. inr (rw (new.1, new.0) named)) inl (root_either (with_object t.heap o born) p r o q s);
    fields = λ a f small live. ⊎_elim
        (λ new. inr ((well_is u (owner a) (field_at u.heap a f)).1 (inl (empty a f small new.1))))
        (λ same. inl (sym (ap (λ (k : Object). k.live) same) ∙ live, ap (λ (k : Object). get_or k.fields f 0) same))
        (either a);
    directories = λ q a d. inl d;
    references = λ s a h. inl h;
  })
    where
      u : Table
      u = with_new t p r o

      empty : (a f : ℕ) → f < FIELDS → object_at u.heap a ≡ born → field_at u.heap a f ≡ NONE
      empty a f small e = ap (λ (k : Object). get_or k.fields f 0) e ∙ get_or-replicate FIELDS f NONE 0 small

      either : (a : ℕ) → ((a ≡ o) × (object_at u.heap a ≡ born)) ⊎ (object_at u.heap a ≡ object_at t.heap a)
      either a = object_either t.heap o born a

      named : holds_well u p o ≡ true
      named = (well_is u p o).1 (inr (record { live = ap (λ (k : Object). k.live) (get_or-set_same t.heap.objects o born _ lt); way = inl own }))
