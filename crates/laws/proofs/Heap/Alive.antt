-- Law D from three conditions of Sound (PROOF-PLAN, "Law D"): what roots and fields of live objects hold is held well, and references in the
-- air are of live objects; so all that is reached from them is live, by induction on the way there. Assumes nothing.
use Rattle.std.specs.Prelude.{◌≡◌, true, [], ◌↔◌, ◌⊎◌, ℕ, ◌<◌}
use Rattle.std.proofs.lemmas.Bool.{false≢true}
use Rattle.std.proofs.Common.{inl, inr, ⊎_elim, eq-eqb, eqb-true}
use Rattle.terms.specs.Counted.{gather, holds}
use Rattle.terms.specs.CountedLaws.{Some}
use Rattle.terms.specs.Limits.{NODES, OBJECTS, PLACES, FIELDS, ROOTS, owner}
use Rattle.terms.proofs.ListLaws.{holds_either, holds_first, holds-gather}
use Rattle.heap.specs.Heap.{field_at, is_live, root_at, roots_of}
use Rattle.heap.proofs.Reached.{reached_within}
use Rattle.heap.specs.Walk.{started, through}
use Rattle.table.specs.declared.Message.{Message}
use Rattle.table.specs.declared.Message.TheVariants.{Empty, Reference, Decrement}
use Rattle.table.specs.declared.Table.{Table}
use Rattle.table.specs.Table.{is_reference_of, message_at}
use Rattle.laws.proofs.Heap.Holding.{well_named, roots_hold}
use Rattle.laws.specs.LawD.{LawD, in_use, reference_in}
use Rattle.laws.specs.Sound.{holds_well}

-- ---- what is in use without a field

-- the object that a message keeps in use is that of its reference
reference_is : (o : ℕ) (m : Message) → (holds (reference_in m) o ≡ true) ↔ (is_reference_of o m ≡ true)
unfolding holds
reference_is o Empty = (λ e. e, λ e. e)
reference_is o (Decrement from to x m n) = (λ e. e, λ e. e)
reference_is o (Reference from to x) = (
  λ e. ⊎_elim (λ q. eq-eqb x o q) (λ none. absurd (false≢true none)) ((holds_first x [] o).0 e),
  λ e. (holds_first x [] o).1 (inl (eqb-true x o e)),
)

-- a root of some node holds o
abbrev pub InRoot : Table → ℕ → Type 0
InRoot t o = Some NODES (λ p. Some ROOTS (λ r. root_at t.heap p r ≡ o))

-- a reference to o is in the air
abbrev pub InAir : Table → ℕ → Type 0
InAir t o = Some PLACES (λ s. is_reference_of o (message_at t s) ≡ true)

-- in use are exactly these
pub in_use_is : (t : Table) (o : ℕ) → (holds (in_use t) o ≡ true) ↔ (InRoot t o ⊎ InAir t o)
unfolding in_use
in_use_is t o = (
  λ e. ⊎_elim (λ l. inl (from_root (in_roots.0 l))) (λ l. inr (from_air (in_air.0 l))) (either.0 e),
  λ w. either.1 (⊎_elim (λ y. inl (in_roots.1 (to_root y))) (λ y. inr (in_air.1 (to_air y))) w),
)
  where
    in_roots : (holds (gather NODES (roots_of t.heap)) o ≡ true) ↔ Some NODES (λ p. holds (roots_of t.heap p) o ≡ true)
    in_roots = holds-gather NODES (roots_of t.heap) o

    in_air : (holds (gather PLACES (λ s. reference_in (message_at t s))) o ≡ true) ↔ Some PLACES (λ s. holds (reference_in (message_at t s)) o ≡ true)
    in_air = holds-gather PLACES (λ s. reference_in (message_at t s)) o

    either : (holds (in_use t) o ≡ true)
        ↔ ((holds (gather NODES (roots_of t.heap)) o ≡ true) ⊎ (holds (gather PLACES (λ s. reference_in (message_at t s))) o ≡ true))
    either = holds_either (gather NODES (roots_of t.heap)) (gather PLACES (λ s. reference_in (message_at t s))) o

    from_root : Some NODES (λ p. holds (roots_of t.heap p) o ≡ true) → InRoot t o
    from_root y = (y.0, y.1, (roots_hold t.heap y.0 o).0 y.2)

    to_root : InRoot t o → Some NODES (λ p. holds (roots_of t.heap p) o ≡ true)
    to_root y = (y.0, y.1, (roots_hold t.heap y.0 o).1 y.2)

    from_air : Some PLACES (λ s. holds (reference_in (message_at t s)) o ≡ true) → InAir t o
    from_air y = (y.0, y.1, (reference_is o (message_at t y.0)).0 y.2)

    to_air : InAir t o → Some PLACES (λ s. holds (reference_in (message_at t s)) o ≡ true)
    to_air y = (y.0, y.1, (reference_is o (message_at t y.0)).1 y.2)

-- ---- the law

module _ (t : Table)
    (roots : (p r : ℕ) → p < NODES → r < ROOTS → holds_well t p (root_at t.heap p r) ≡ true)
    (fields : (o f : ℕ) → o < OBJECTS → f < FIELDS → is_live t.heap o ≡ true → holds_well t (owner o) (field_at t.heap o f) ≡ true)
    (references : (s o : ℕ) → s < PLACES → is_reference_of o (message_at t s) ≡ true → is_live t.heap o ≡ true) where
  -- law D
  pub law_d : LawD t
  law_d o (started w l) = ⊎_elim by_root by_air ((in_use_is t o).0 l)
    where
      by_root : InRoot t o → is_live t.heap o ≡ true
      by_root y = let (p, lt, there) = y in let (r, small, e) = there in (well_named t p o w.number (rw e at (roots p r lt small))).live

      by_air : InAir t o → is_live t.heap o ≡ true
      by_air y = references y.0 o y.1 y.2
  law_d o (through {x} way f lt e w) =
      (well_named t (owner x) o w.number (rw e at (fields x f (reached_within way).number lt (law_d x way)))).live
