-- The changes of a plan and of COLLECT on an image stand in order and within its bytes. Assumes nothing.
use Rattle.std.specs.Prelude.{◌≡◌, ℕ, suc, ◌+◌, ◌≤◌, ◌<◌}
use Rattle.std.proofs.Common.{sym, arith}
use Rattle.std.proofs.Math.Path.{subst}
use mathlib.Core.List.{List}
use Rattle.std.proofs.Math.ListN.{length}
use Rattle.terms.specs.Limits.{NODES}
use Rattle.terms.specs.Numbers.{ACCEPTED}
use Rattle.table.specs.declared.Table.{Table}
use Rattle.image.specs.Find.{offset}
use Rattle.image.specs.Order.{position}
use Rattle.image.specs.Spots.{spot_position}
use Rattle.image.specs.Writer.{records_of, image}
use Rattle.splice.proofs.Bytes.{offset_within, spot_small}
use Rattle.splice.proofs.Image.{records_fit}
use Rattle.splice.specs.Patched.{Ascends}
use Rattle.splice.specs.Patched as patched
use Rattle.splice.proofs.Resumed.{offset_further}
use Rattle.step.specs.Outcome.{Outcome}
use Rattle.plan.specs.Change.{Change, Plan}
use Rattle.etzvanul.specs.Orderly.{Orderly}
use Rattle.plan.specs.Plan.{changes_of}
use Rattle.plan.specs.Planned.{Matches, none, same, made, Planned}
use Rattle.plan.specs.Sweep.{sweep_of, sweep_changes}
use Rattle.plan.specs.SweepLaws.{swept_differs}
use Rattle.plan.specs.SweepMatches.{sweep_matches}
use Rattle.plan.specs.Told.{Told}

module _ {l : List ℕ} {t : Table} (told : Told l t) where
  -- every position begins within the bytes
  within : (n : ℕ) → n ≤ position 6 0 → offset n l ≤ length l
  unfolding image
  within n top =
      subst (λ (x : List ℕ). offset n x ≤ length x) told.image
      (offset_within n top (records_of t) (records_fit t told.formed told.fits))

  -- from where a position begins on
  orderly_from : (m : ℕ) → m ≤ position 6 0 → {cs : List Change} {ps : List patched.Change} → Matches l cs ps → Ascends m ps
      → Orderly (offset m l) cs (length l)
  orderly_from m top none up = within m top
  orderly_from m top (same more) up = orderly_from m top more up
  orderly_from m top (made s {cs = cs} in' begins ends is more) up =
      let n : ℕ = spot_position s in
      let small = spot_small s in' in
      let first = offset_further m n up.0 l in
      let second = offset_further n (suc n) (omega arith) l in (
        omega (arith, begins),
        omega (arith, begins, ends),
        subst (λ (k : ℕ). Orderly k cs (length l)) (sym ends) (orderly_from (suc n) (omega arith) more up.1.1),
      )

  -- from the front
  pub orderly : {cs : List Change} {ps : List patched.Change} → Matches l cs ps → Ascends 0 ps → Orderly 0 cs (length l)
  orderly {cs} matches up =
      subst (λ (k : ℕ). Orderly k cs (length l)) told.first (orderly_from 0 (omega arith) matches up)

  -- an accepted event's plan
  pub planned_orderly : {o : Outcome} {plan : Plan} → Planned l t o plan → plan.answer ≡ ACCEPTED
      → Orderly 0 (changes_of (t.count + 1) plan) (length l)
  planned_orderly right accepted = let changed = right.changed accepted in orderly changed.1.0 changed.1.1.ascends

  -- COLLECT that is accepted
  pub sweep_orderly : (p : ℕ) → p < NODES → (sweep_of l p).answer ≡ ACCEPTED → Orderly 0 (sweep_changes (t.count + 1) l p (sweep_of l p)) (length l)
  sweep_orderly p lp accepted = orderly (sweep_matches told p lp (sweep_of l p) (t.count + 1)) (swept_differs l t told p lp accepted).ascends
