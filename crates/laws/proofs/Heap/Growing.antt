-- One reason for most events that what is held well stays so: nothing stops being live or present, and each root, field, directory and reference
-- is one that stood there before or is in order itself. Assumes nothing.
use Rattle.std.specs.Prelude.{◌≡◌, true, ◌⊎◌, ℕ, ◌<◌}
use Rattle.std.proofs.Common.{inl, inr, ⊎_elim}
use Rattle.terms.specs.Limits.{FIELDS, owner}
use Rattle.entry.specs.Entry.{is_directory, is_present}
use Rattle.heap.specs.Heap.{field_at, is_live, root_at}
use Rattle.table.specs.declared.Table.{Table}
use Rattle.table.specs.Table.{entry_at, is_reference_of, message_at}
use Rattle.laws.proofs.Heap.Holding.{Named, WellHeld, well_is}
use Rattle.laws.specs.Sound.{holds_well}

-- nothing stops being live, and no entry stops being present
pub record Keeps (t u : Table) : Type 0 where
  pub live : (x : ℕ) → is_live t.heap x ≡ true → is_live u.heap x ≡ true
  pub present : (p x : ℕ) → is_present (entry_at t p x) ≡ true → is_present (entry_at u p x) ≡ true

-- so what is held well stays so
pub keeps_well : {t u : Table} → Keeps t u → (p x : ℕ) → holds_well t p x ≡ true → holds_well u p x ≡ true
keeps_well {t} {u} keeps p x e =
    let named : Named t p x → Named u p x =
    λ n. record { live = keeps.live x n.live; way = ⊎_elim inl (λ y. inr (keeps.present p x y)) n.way } in
    (well_is u p x).1 (⊎_elim inl (λ n. inr (named n)) ((well_is t p x).0 e))

-- from t to u all that names an object did so before, or does so well
pub record Grows (t u : Table) : Type 0 where
  pub keeps : Keeps t u
  pub roots : (p r : ℕ) → (root_at u.heap p r ≡ root_at t.heap p r) ⊎ (holds_well u p (root_at u.heap p r) ≡ true)
  pub fields : (o f : ℕ) → f < FIELDS → is_live u.heap o ≡ true
      → ((is_live t.heap o ≡ true) × (field_at u.heap o f ≡ field_at t.heap o f)) ⊎ (holds_well u (owner o) (field_at u.heap o f) ≡ true)
  pub directories : (p o : ℕ) → is_directory (entry_at u p o) ≡ true → (is_directory (entry_at t p o) ≡ true) ⊎ (is_live t.heap o ≡ true)
  pub references : (s o : ℕ) → is_reference_of o (message_at u s) ≡ true → (is_reference_of o (message_at t s) ≡ true) ⊎ (is_live t.heap o ≡ true)

-- then all stays held well
pub grows_held : {t u : Table} → WellHeld t → Grows t u → WellHeld u
grows_held {t} {u} held grows = record {
  roots = λ p r node lt. ⊎_elim (λ e. rw e (keeps_well keeps p (root_at t.heap p r) (held.roots p r node lt))) (λ well. well) (grows.roots p r);
  fields = λ o f number lt live. ⊎_elim
      (λ old. rw old.1 (keeps_well keeps (owner o) (field_at t.heap o f) (held.fields o f number lt old.0)))
      (λ well. well)
      (grows.fields o f lt live);
  directories = λ p o node number d. keeps.live o (⊎_elim (held.directories p o node number) (λ live. live) (grows.directories p o d));
  references = λ s o place h. keeps.live o (⊎_elim (held.references s o place) (λ live. live) (grows.references s o h));
}
  where
    keeps : Keeps t u
    keeps = grows.keeps
