-- Where COLLECT starts and what it reclaims (document 01, COLLECT), in propositions: the walk starts from the roots of the node and from its
-- objects whose directory is not clear; reclaimed is what is the node's own, live and not reached. Assumes nothing.
use Rattle.std.specs.Prelude.{◌≡◌, refl, Bool, ◌↔◌, ◌⊎◌, ℕ, ◌+◌, ◌*◌, ◌%◌, ◌<◌, if◌then◌else◌}
use Rattle.std.proofs.Common.{sym, ap, ◌∙◌, true≢false, inl, inr, ⊎_elim}
use Rattle.std.proofs.Math.Bool.{true, false, not, not-eq-not}
use Rattle.std.proofs.lemmas.Bool.{false≢true}
use mathlib.Core.List.{[], ◌∷◌}
use native.Mathlib.Omega.{arith}
use borrow.Author.Tests.{eqb-true, eq-eqb, not-true}
use Rattle.std.proofs.Math.ListN.{get_or}
use Rattle.terms.specs.Choose.{◌and◌}
use Rattle.terms.proofs.ChooseLaws.{and_passes}
use Rattle.terms.specs.Counted.{holds}
use Rattle.terms.specs.CountedLaws.{Some}
use Rattle.terms.specs.Limits.{OBJECTS, OWNED, ROOTS, owner}
use Rattle.terms.proofs.ListLaws.{get_or-list, holds_either, holds_first, holds-gather}
use Rattle.entry.specs.Entry.{is_clear}
use Rattle.heap.specs.Heap.{is_live, root_at, roots_of}
use Rattle.heap.proofs.Reached.{reached_is}
use Rattle.heap.specs.Walk.{Reached, Within, started, is_marked, owned_by, pointed}
use Rattle.table.specs.declared.Table.{Table}
use Rattle.table.specs.Table.{entry_at}
use Rattle.step.specs.Collect.{counted, starts, kept, is_reclaimed}
use Rattle.laws.proofs.Heap.Holding.{roots_hold}
use Rattle.laws.specs.Heap.Starts.{Counted}

-- a list of one name that stands there only if a test passes
one_if : (b : Bool) (y x : ℕ) → (holds (if b then y ∷ [] else []) x ≡ true) ↔ ((b ≡ true) × (y ≡ x))
unfolding holds
one_if true y x = (λ e. (refl, ⊎_elim (λ q. q) (λ none. absurd (false≢true none)) ((holds_first y [] x).0 e)), λ p. (holds_first y [] x).1 (inl p.1))
one_if false y x = (λ e. absurd (false≢true e), λ p. p.0)

module _ (t : Table) (p o : ℕ) where
  -- the test of object k among p's own
  abbrev is_counted : ℕ → Bool
  is_counted k = not (is_clear (entry_at t p (OWNED * p + k)))

  -- the objects that the counts point at
  pointed_is : (holds (pointed p (counted t p)) o ≡ true) ↔ Counted t p o
  unfolding pointed counted
  pointed_is = (
    λ e.
        let (k, lt, there) = gathered.0 e in
        let (test, same) = (one_if (get_or (counted t p) k false) (OWNED * p + k) o).0 there in
        let unclear : not (is_clear (entry_at t p o)) ≡ true = rw same at (sym (get_or-list OWNED is_counted k false lt) ∙ test) in
        record { own = omega arith; unclear = not-true (is_clear (entry_at t p o)) unclear },
    λ c.
        let place : OWNED * p + o % OWNED ≡ o = let own = c.own in omega arith in
        let small : o % OWNED < OWNED = omega arith in
        let test : is_counted (o % OWNED) ≡ true = rw place (rw c.unclear) in
        gathered.1 (o % OWNED, small, (one_if _ (OWNED * p + o % OWNED) o).1 (get_or-list OWNED is_counted (o % OWNED) false small ∙ test, place)),
  )
    where
      gathered : (holds (pointed p (counted t p)) o ≡ true)
          ↔ Some OWNED (λ k. holds (if get_or (counted t p) k false then (OWNED * p + k) ∷ [] else []) o ≡ true)
      gathered = holds-gather OWNED (λ k. if get_or (counted t p) k false then (OWNED * p + k) ∷ [] else []) o

  -- the walk starts from what a root of p holds, and from the objects of p that are counted
  pub starts_is : (holds (starts t p) o ≡ true) ↔ (Some ROOTS (λ r. root_at t.heap p r ≡ o) ⊎ Counted t p o)
  starts_is = (
    λ e. ⊎_elim (λ l. inl ((roots_hold t.heap p o).0 l)) (λ l. inr (pointed_is.0 l)) (either.0 e),
    λ w. either.1 (⊎_elim (λ y. inl ((roots_hold t.heap p o).1 y)) (λ c. inr (pointed_is.1 c)) w),
  )
    where
      either : (holds (starts t p) o ≡ true) ↔ ((holds (roots_of t.heap p) o ≡ true) ⊎ (holds (pointed p (counted t p)) o ≡ true))
      either = holds_either (roots_of t.heap p) (pointed p (counted t p)) o

-- ---- what is kept, and what is reclaimed

-- object o is reached by COLLECT at p: from p's roots and counted objects, through fields of objects of p only
abbrev pub Kept : Table → ℕ → ℕ → Type 0
Kept t p o = Reached t.heap (owned_by p) (starts t p) o

-- marked exactly where it is reached
pub kept_is : (t : Table) (p o : ℕ) → (is_marked (kept t p) o ≡ true) ↔ Kept t p o
kept_is t p o = reached_is t.heap (owned_by p) (starts t p) o

-- o is p's own, live and not reached
pub record Reclaimed (t : Table) (p o : ℕ) : Type 0 where
  pub own : owner o ≡ p
  pub live : is_live t.heap o ≡ true
  pub unreached : Kept t p o → ⊥

-- the test for it says just this
pub reclaimed_is : (t : Table) (p o : ℕ) → (is_reclaimed t p (kept t p) o ≡ true) ↔ Reclaimed t p o
reclaimed_is t p o = (
  λ e.
      let (own, rest) = outer.0 e in
      let (live, off) = inner.0 rest in
      let unreached : Kept t p o → ⊥ = λ way. true≢false (sym ((kept_is t p o).1 way) ∙ not-true (is_marked (kept t p) o) off) in
      record { own = eqb-true (owner o) p own; live = live; unreached = unreached },
  λ r. outer.1 (eq-eqb (owner o) p r.own, inner.1 (r.live, ap not ((not-eq-not {b = false}).0 (λ on. r.unreached ((kept_is t p o).0 on))))),
)
  where
    outer : (is_reclaimed t p (kept t p) o ≡ true) ↔ ((owned_by p o ≡ true) × ((is_live t.heap o and not (is_marked (kept t p) o)) ≡ true))
    outer = and_passes (owned_by p o) (is_live t.heap o and not (is_marked (kept t p) o))

    inner : ((is_live t.heap o and not (is_marked (kept t p) o)) ≡ true) ↔ ((is_live t.heap o ≡ true) × (not (is_marked (kept t p) o) ≡ true))
    inner = and_passes (is_live t.heap o) (not (is_marked (kept t p) o))

-- a live object of p that is not reclaimed is reached
pub stays_kept : (t : Table) (p o : ℕ) → owner o ≡ p → is_live t.heap o ≡ true → is_reclaimed t p (kept t p) o ≡ false → Kept t p o
stays_kept t p o own live stays = go (is_marked (kept t p) o) refl
  where
    go : (b : Bool) → is_marked (kept t p) o ≡ b → Kept t p o
    go true on = (kept_is t p o).0 on
    go false off =
        let unreached : Kept t p o → ⊥ = λ way. true≢false (sym ((kept_is t p o).1 way) ∙ off) in
        absurd (true≢false (sym ((reclaimed_is t p o).1 (record { own = own; live = live; unreached = unreached })) ∙ stays))

-- the directory of a reclaimed object is clear: "both numbers 0", since one that isn't is started from
pub reclaimed_clear : (t : Table) (p o : ℕ) → o < OBJECTS → is_reclaimed t p (kept t p) o ≡ true → is_clear (entry_at t p o) ≡ true
reclaimed_clear t p o lt gone =
    let known = (reclaimed_is t p o).0 gone in
    let within : Within (owned_by p) o = record { number = lt; inside = eq-eqb (owner o) p known.own } in
    not-eq-not.0 (λ e. known.unreached (started within ((starts_is t p o).1 (inr (record { own = known.own; unclear = e })))))
