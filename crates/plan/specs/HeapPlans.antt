-- The plans of NEW, MOVE, CLEAR, LOAD and STORE are right: on an image that tells a table they come to what the rule does on that table.
-- Assumes nothing.
use Rattle.std.specs.Prelude.{◌≡◌, refl, false, ltb, get_or}
use Rattle.std.proofs.Math.Bool.{not}
use mathlib.Core.List.{List, [], ◌∷◌}
use Prim.Native.Nat.{ℕ, ◌+◌, ◌*◌, ◌<◌}
use native.Mathlib.Omega.{arith}
use borrow.Author.Tests.{ltb-true, not-false}
use Rattle.terms.specs.Choose.{◌when◌, answered}
use Rattle.terms.specs.Limits.{NODES, OBJECTS, OWNED, ROOTS, NONE}
use Rattle.terms.specs.Numbers.{ACCEPTED, ROOT, NOROOM, TORN, EMPTY, AWAY}
use Rattle.entry.specs.Entry.{is_absent}
use Rattle.heap.specs.declared.Object.{Object}
use Rattle.heap.specs.Heap.{born, field_at, free_own, is_live, is_none, object_at, root_at, with_field_in, with_root}
use Rattle.heap.specs.Walk.{owned_by}
use Rattle.image.specs.Find.{of_object}
use Rattle.splice.specs.Changed.{roots_with}
use Rattle.splice.proofs.Events.{root_differs}
use Rattle.splice.specs.Kinds.{object_with}
use Rattle.splice.proofs.KindLaws.{new_differs, store_differs}
use Rattle.step.specs.Deed.{Arranged}
use Rattle.step.specs.Outcome.{Outcome, by, did, refused}
use Rattle.step.specs.Clear.{clear}
use Rattle.step.specs.Load.{load, out_of_reach}
use Rattle.step.specs.Move.{move}
use Rattle.step.specs.New.{chosen, new}
use Rattle.step.specs.Store.{store}
use Rattle.table.specs.declared.Table.{Table}
use Rattle.table.specs.ShapeLaws.{root_object, shaped}
use Rattle.table.specs.Table.{entry_at, with_heap}
use Rattle.plan.specs.Change.{Same, Plan}
use Rattle.plan.specs.Matched.{lowest_same, counted, object_made, roots_made}
use Rattle.plan.specs.Plan.{at, free_own_in, object_of, object_spot, out_of_reach_in, root_of}
use Rattle.plan.specs.Plan.{refused_plan, root_plan, new_plan, load_plan, store_plan}
use Rattle.plan.specs.Planned.{Planned, planned_by, none, same}
use Rattle.plan.specs.Told.{Told}

-- what STORE does to an object x that stands for o
abbrev stored : List ℕ → ℕ → ℕ → ℕ → Object → Plan
stored l o f name x = record {
  answer = ACCEPTED;
  deed = Arranged;
  object = at (object_spot l o) o 0 (of_object (with_field_in x f name));
  roots = Same;
  entry = Same;
  message = Same;
}

module _ (l : List ℕ) (t : Table) (told : Told l t) where
  -- the free object of a node is told
  free_told : (p : ℕ) → p < NODES → free_own_in l p ≡ free_own t.heap p
  unfolding free_own_in
  free_told p lp = lowest_same 0 OWNED _ _ (λ k lt. rw (told.objects (OWNED * p + k) (omega arith)))

  -- ---- MOVE and CLEAR

  -- a root of p is changed, and no more
  root_planned : (p r name : ℕ) → p < NODES
      → Planned l t (did Arranged (with_heap t (with_root t.heap p r name))) (root_plan l p r name)
  unfolding root_plan
  root_planned p r name lp = rw (told.roots p lp) (record {
    answer = refl;
    deed = refl;
    changed = λ is. (
      _,
      (
        counted l t told (t.count + 1) (same (roots_made l t told p lp (roots_with t p r name) (same (same none)))),
        root_differs t told.formed (t.count + 1) p r name lp,
      ),
    );
  })

  pub move_planned : (p r q : ℕ) → p < NODES → Planned l t (by t (move t p r q)) (root_plan l p r (root_of l p q))
  unfolding move
  move_planned p r q lp = rw (told.roots p lp) (root_planned p r (root_at t.heap p q) lp)

  pub clear_planned : (p r : ℕ) → p < NODES → Planned l t (by t (clear t p r)) (root_plan l p r NONE)
  unfolding clear
  clear_planned p r lp = root_planned p r NONE lp

  -- ---- NEW

  pub new_planned : (p r : ℕ) → p < NODES → Planned l t (by t (new t p r)) (new_plan l p r (OWNED * p + free_own_in l p))
  unfolding new new_plan
  new_planned p r lp =
      rw (free_told p lp, told.roots p lp)
      (planned_by l t (
      (ROOT when not (is_none (root_at t.heap p r)))
      ∷ (NOROOM when not (ltb (free_own t.heap p) OWNED))
      ∷ []
      ) _ _ (λ is. absurd (omega arith), (λ is. absurd (omega arith), tt)) (λ pass.
      let room : free_own t.heap p < OWNED = ltb-true _ _ (not-false _ pass.1.0) in
      let o : ℕ = chosen t p in
      let lo : o < OBJECTS = omega arith in
      rw (told.entries p o lp lo)
      (planned_by l t ((TORN when not (is_absent (entry_at t p o))) ∷ []) _ _ (λ is. absurd (omega arith), tt) (λ whole. record {
        answer = refl;
        deed = refl;
        changed = λ is. (
          _,
          (
            counted l t told (t.count + 1) (object_made l t told o lo born (roots_made l t told p lp (roots_with t p r o) (same (same none)))),
            new_differs t told.formed (t.count + 1) p r lp room,
          ),
        );
      }))))

  -- ---- LOAD and STORE

  -- where the fields of what root q holds are in reach, it is an object and is told
  module _ (p q : ℕ) (lp : p < NODES) (lq : q < ROOTS) (effect : Outcome) (plan : Object → Plan) where
    reach_planned : (is_none (root_at t.heap p q) ≡ false → Planned l t effect (plan (object_at t.heap (root_at t.heap p q))))
        → Planned l t (answered (refused t) (out_of_reach t p (root_at t.heap p q)) effect)
        (answered refused_plan (out_of_reach_in l p (root_at t.heap p q)) (plan (object_of l (root_at t.heap p q))))
    reach_planned reached =
        let o : ℕ = root_at t.heap p q in
        planned_by l t ((EMPTY when is_none o) ∷ (AWAY when not (owned_by p o)) ∷ []) _ _
        (λ is. absurd (omega arith), (λ is. absurd (omega arith), tt))
        (λ pass.
        rw (told.objects o (root_object t (shaped t told.fits) p q lp lq pass.0))
        (planned_by l t ((TORN when not (is_live t.heap o)) ∷ []) _ _ (λ is. absurd (omega arith), tt) (λ whole. reached pass.0)))

  pub load_planned : (p r q f : ℕ) → p < NODES → q < ROOTS → Planned l t (by t (load t p r q f)) (load_plan l p r (root_of l p q) f)
  unfolding load load_plan
  load_planned p r q f lp lq =
      rw (told.roots p lp)
      (reach_planned p q lp lq _ (λ x. root_plan l p r (get_or x.fields f 0))
      (λ named. root_planned p r (field_at t.heap (root_at t.heap p q) f) lp))

  pub store_planned : (p q f r : ℕ) → p < NODES → q < ROOTS → Planned l t (by t (store t p q f r)) (store_plan l p (root_of l p q) f r)
  unfolding store store_plan
  store_planned p q f r lp lq =
      rw (told.roots p lp)
      (reach_planned p q lp lq _ (stored l (root_at t.heap p q) f (root_at t.heap p r)) (λ named.
      let o : ℕ = root_at t.heap p q in
      let lo : o < OBJECTS = root_object t (shaped t told.fits) p q lp lq named in
      record {
        answer = refl;
        deed = refl;
        changed = λ is. (
          _,
          (
            counted l t told (t.count + 1) (object_made l t told o lo (object_with t o f (root_at t.heap p r)) (same (same (same none)))),
            store_differs t told.formed (t.count + 1) o f (root_at t.heap p r) lo,
          ),
        );
      }))
