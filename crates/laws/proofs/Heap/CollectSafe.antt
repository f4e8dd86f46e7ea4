-- The sentence that the owner of the trees asks for (PROOF-PLAN, "Law D"): an object that an accepted COLLECT reclaims was not reached, before it,
-- from any root or any reference in the air on any node. And the other way round, so that COLLECT keeps nothing for no reason: an object of
-- the node that it leaves live was reached on that node, from its roots or from a directory that is not clear. Assumes nothing.
use Rattle.std.specs.Prelude.{◌≡◌, refl, Bool, true, false, ℕ, ◌<◌}
use Rattle.std.proofs.Common.{sym, ap, ◌∙◌, true≢false}
use Rattle.terms.specs.Limits.{OBJECTS, owner}
use Rattle.terms.specs.Numbers.{ACCEPTED}
use Rattle.heap.specs.declared.Object.{Object}
use Rattle.heap.specs.Heap.{is_live}
use Rattle.heap.proofs.HeapLaws.{live_number}
use Rattle.table.specs.declared.Table.{Table}
use Rattle.step.specs.Collect.{collect_holding, collect_keeping}
use Rattle.step.specs.Event.{COLLECT, event, kind_of}
use Rattle.step.specs.Step.{rule_for, step}
use Rattle.laws.specs.Events.Answered.{counting}
use Rattle.laws.proofs.Events.Answered.{done}
use Rattle.laws.proofs.Heap.Collected.{collected, is_gone, live_after, object_stays}
use Rattle.laws.proofs.Heap.Holding.{sound_held}
use Rattle.laws.proofs.Heap.Nobody.{Bridge}
use Rattle.laws.proofs.Heap.Starts.{Kept, Reclaimed, reclaimed_is, stays_kept}
use Rattle.laws.proofs.Heap.UsedKept.{reclaimed_unused}
use Rattle.laws.specs.LawD.{Used}
use Rattle.laws.specs.Sound.{Sound}

module _ (t : Table) (p : ℕ) (accepted : (step t (event COLLECT p 0 0 0)).answer ≡ ACCEPTED) where
  -- the table after an accepted COLLECT
  pub after_collect : (step t (event COLLECT p 0 0 0)).table ≡ counting t (collected t p)
  unfolding kind_of rule_for collect_keeping collect_holding
  after_collect = (done t (event COLLECT p 0 0 0) accepted refl).after

  -- what is live after it
  pub live_after_collect : (o : ℕ) → is_live (step t (event COLLECT p 0 0 0)).table.heap o ≡ is_live (collected t p).heap o
  live_after_collect o = ap (λ (u : Table). is_live u.heap o) after_collect

  module _ (sound : Sound t) where
    -- an object that was live and is not any more was reclaimed: p's own and not reached
    pub stopped_reclaimed : (o : ℕ) → is_live t.heap o ≡ true → is_live (step t (event COLLECT p 0 0 0)).table.heap o ≡ false → Reclaimed t p o
    stopped_reclaimed o was stopped = go (is_gone t p o) refl
      where
        lt : o < OBJECTS
        lt = live_number t.heap o sound.formed.objects was

        go : (b : Bool) → is_gone t p o ≡ b → Reclaimed t p o
        go true gone = (reclaimed_is t p o).0 gone
        go false stays =
            let still = ap (λ (x : Object). x.live) (object_stays t p o lt stays) ∙ was in
            absurd (true≢false (sym still ∙ sym (live_after_collect o) ∙ stopped))

    -- COLLECT reclaims nothing that anybody uses
    pub collect_safe : Bridge t → (o : ℕ) → is_live t.heap o ≡ true → is_live (step t (event COLLECT p 0 0 0)).table.heap o ≡ false → Used t o → ⊥
    collect_safe bridge o was stopped = reclaimed_unused (sound_held sound) bridge p o (stopped_reclaimed o was stopped)

  -- COLLECT keeps nothing of p that is not reached on p from p's roots and counted objects
  pub collect_exact : (o : ℕ) → owner o ≡ p → is_live (step t (event COLLECT p 0 0 0)).table.heap o ≡ true → Kept t p o
  collect_exact o own live =
      let (stays, was) = live_after t p o (sym (live_after_collect o) ∙ live) in
      stays_kept t p o own was stays
