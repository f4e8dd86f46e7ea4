-- What it means that a node holds well what it holds (document 01, TORN of COLLECT; `holds_well` of specs/Sound.antt), said in propositions,
-- and the four conditions of Sound that speak of the heap, by themselves. Assumes nothing.
use Rattle.std.specs.Prelude.{◌≡◌, true, ◌↔◌, ◌⊎◌, ℕ, ◌<◌}
use Rattle.std.proofs.Common.{inl, inr, ⊎_elim, arith, eqb-true, eq-eqb}
use Rattle.terms.specs.Choose.{◌and◌, ◌or◌}
use Rattle.terms.proofs.ChooseLaws.{and_passes, or_passes}
use Rattle.terms.specs.Counted.{holds, list_from}
use Rattle.terms.specs.CountedLaws.{Some}
use Rattle.terms.specs.Limits.{NODES, OBJECTS, PLACES, FIELDS, ROOTS, NONE, owner}
use Rattle.terms.proofs.ListLaws.{holds-list}
use Rattle.entry.specs.Entry.{is_directory, is_present}
use Rattle.heap.specs.declared.Heap.{Heap}
use Rattle.heap.specs.Heap.{field_at, is_live, is_none, root_at, roots_of}
use Rattle.heap.specs.Walk.{owned_by}
use Rattle.table.specs.declared.Table.{Table}
use Rattle.table.specs.Table.{entry_at, is_reference_of, message_at}
use Rattle.laws.specs.Sound.{Sound, holds_well}

-- ---- one name

-- x is a live object that is p's own or for which p has an entry with Presence true
pub record Named (t : Table) (p x : ℕ) : Type 0 where
  pub live : is_live t.heap x ≡ true
  pub way : (owner x ≡ p) ⊎ (is_present (entry_at t p x) ≡ true)

-- what is held well is nothing, or such an object
pub well_is : (t : Table) (p x : ℕ) → (holds_well t p x ≡ true) ↔ ((x ≡ NONE) ⊎ Named t p x)
well_is t p x = (
  λ e. ⊎_elim (λ none. inl (eqb-true x NONE none)) (λ rest. inr (named (both.0 rest))) (either.0 e),
  λ w.
      let way : Named t p x → (owned_by p x ≡ true) ⊎ (is_present (entry_at t p x) ≡ true) =
      λ n. ⊎_elim (λ own. inl (eq-eqb (owner x) p own)) inr n.way in
      either.1 (⊎_elim (λ none. inl (eq-eqb x NONE none)) (λ n. inr (both.1 (n.live, ways.1 (way n)))) w),
)
  where
    ways : ((owned_by p x or is_present (entry_at t p x)) ≡ true) ↔ ((owned_by p x ≡ true) ⊎ (is_present (entry_at t p x) ≡ true))
    ways = or_passes (owned_by p x) (is_present (entry_at t p x))

    both : ((is_live t.heap x and (owned_by p x or is_present (entry_at t p x))) ≡ true)
        ↔ ((is_live t.heap x ≡ true) × ((owned_by p x or is_present (entry_at t p x)) ≡ true))
    both = and_passes (is_live t.heap x) (owned_by p x or is_present (entry_at t p x))

    either : (holds_well t p x ≡ true) ↔ ((is_none x ≡ true) ⊎ ((is_live t.heap x and (owned_by p x or is_present (entry_at t p x))) ≡ true))
    either = or_passes (is_none x) (is_live t.heap x and (owned_by p x or is_present (entry_at t p x)))

    named : (is_live t.heap x ≡ true) × ((owned_by p x or is_present (entry_at t p x)) ≡ true) → Named t p x
    named p' = record { live = p'.0; way = ⊎_elim (λ own. inl (eqb-true (owner x) p own)) inr (ways.0 p'.1) }

-- an object number that is held well is such an object
pub well_named : (t : Table) (p x : ℕ) → x < OBJECTS → holds_well t p x ≡ true → Named t p x
well_named t p x lt e = ⊎_elim (λ none. absurd (omega arith)) (λ n. n) ((well_is t p x).0 e)

-- a node's roots hold x exactly where one of the eight is x
pub roots_hold : (h : Heap) (p x : ℕ) → (holds (roots_of h p) x ≡ true) ↔ Some ROOTS (λ r. root_at h p r ≡ x)
unfolding list_from
roots_hold h p x = holds-list ROOTS (root_at h p) x

-- ---- the whole table

-- what Sound says of roots, fields, directories and references
pub record WellHeld (t : Table) : Type 0 where
  pub roots : (p r : ℕ) → p < NODES → r < ROOTS → holds_well t p (root_at t.heap p r) ≡ true
  pub fields : (o f : ℕ) → o < OBJECTS → f < FIELDS → is_live t.heap o ≡ true → holds_well t (owner o) (field_at t.heap o f) ≡ true
  pub directories : (p o : ℕ) → p < NODES → o < OBJECTS → is_directory (entry_at t p o) ≡ true → is_live t.heap o ≡ true
  pub references : (s o : ℕ) → s < PLACES → is_reference_of o (message_at t s) ≡ true → is_live t.heap o ≡ true

-- Sound says so
pub sound_held : {t : Table} → Sound t → WellHeld t
sound_held sound = record { roots = sound.roots; fields = sound.fields; directories = sound.directories; references = sound.references }
