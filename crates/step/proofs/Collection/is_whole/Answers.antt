use Rattle.std.proofs.Common.{◌≡◌, refl, ℕ, Bool, sym, not, ◌∙◌, rules, tests, [], if◌then◌else◌}
use Rattle.std.proofs.lemmas.Bool.{false≢true}
use Rattle.terms.specs.Choose.{◌or◌, ◌and◌}
use Rattle.terms.specs.Counted.{all, every}
use Rattle.terms.specs.Limits.{OBJECTS}
use Rattle.terms.proofs.ListLaws.{all_append, all_gather}
use Rattle.heap.specs.Heap.{fields_of, is_live, roots_of}
use Rattle.heap.specs.Walk.{held_by, is_marked}
use Rattle.step.specs.CollectParts.{may_hold_by, is_whole}
use Rattle.step.specs.declared.Collection.{Collection}
use Rattle.step.proofs.Lists.{all-range}
use Rattle.step.proofs.Collection.is_whole.Goals as goal
use Rattle.step.proofs.Collection.is_whole.Goals.{then-all, else-all}

-- what is asked of an object
live : Collection → ℕ → Bool
live a o = not (is_marked a.kept.seen o) or is_live a.heap o

allowed : Collection → ℕ → Bool
allowed a o = all (may_hold_by a.present.seen a.node) (if is_marked a.kept.seen o then fields_of a.heap o else [])

-- the three tests, in the order in which they are asked
parts : (a : Collection) → is_whole a.heap a.node a.present.seen a.kept.seen
    ≡ (every OBJECTS (live a) and all (may_hold_by a.present.seen a.node) (roots_of a.heap a.node) and every OBJECTS (allowed a))
unfolding held_by live allowed
parts a = rw (all_append, all_gather) refl

pub returns-then-roots_allowed : goal.returns-then-roots_allowed
unfolding live allowed
returns-then-roots_allowed c =
    let a = c.args.self.now in
    let lives : c.all.result ≡ every OBJECTS (live a) =
    all-range OBJECTS (live a) _ _ _ c.all.ensures.ran (λ x b q k. search (rules, tests)) in
    let fields : c.all-then-roots_allowed.result ≡ every OBJECTS (allowed a) =
    all-range OBJECTS (allowed a) _ _ _ c.all-then-roots_allowed.ensures.ran (λ x b q k. search (rules, tests)) in
    elim c.if-all.branch [
      | then-all w ↦ rw (parts a, sym lives ∙ w.if-all.true, sym w.roots_allowed.ensures ∙ sym w.value-is ∙ c.if-roots_allowed.true) fields
      | else-all w ↦ absurd (false≢true (sym (w.value-is ∙ w.if-all.false) ∙ c.if-roots_allowed.true))
    ]

pub returns-else-roots_allowed : goal.returns-else-roots_allowed
unfolding live
returns-else-roots_allowed c =
    let a = c.args.self.now in
    let lives : c.all.result ≡ every OBJECTS (live a) =
    all-range OBJECTS (live a) _ _ _ c.all.ensures.ran (λ x b q k. search (rules, tests)) in
    elim c.if-all.branch [
      | then-all w ↦ rw (parts a, sym lives ∙ w.if-all.true, sym w.roots_allowed.ensures ∙ sym w.value-is ∙ c.if-roots_allowed.false) c.if-roots_allowed.false
      | else-all w ↦ rw (parts a, sym lives ∙ w.if-all.false) (w.value-is ∙ w.if-all.false)
    ]
