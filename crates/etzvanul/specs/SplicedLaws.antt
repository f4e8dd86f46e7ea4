-- The old image with a plan's changes, or COLLECT's, made on its bytes is the image of the changed table. Assumes nothing.
use Rattle.std.specs.Prelude.{◌≡◌, refl, List, ℕ, suc, ◌+◌, ◌-◌, ◌<◌, drop}
use Rattle.std.proofs.Common.{sym, ap, ◌∙◌, arith, drop-drop}
use Rattle.terms.specs.Limits.{NODES}
use Rattle.terms.specs.Numbers.{ACCEPTED}
use Rattle.table.specs.declared.Table.{Table}
use Rattle.table.specs.Table.{with_count}
use Rattle.image.specs.Find.{offset}
use Rattle.image.specs.Spots.{spot_position}
use Rattle.image.specs.Writer.{image}
use Rattle.splice.specs.Bytes.{patched_bytes}
use Rattle.splice.proofs.Image.{image_patched}
use Rattle.splice.specs.Patched.{Ascends, Differs}
use Rattle.splice.specs.Patched as patched
use Rattle.splice.proofs.Resumed.{offset_further}
use Rattle.step.specs.Outcome.{Outcome, by}
use Rattle.step.specs.Collect.{collect}
use Rattle.plan.specs.Change.{Change, Plan}
use Rattle.plan.specs.Planned.{Matches, none, same, made, Planned}
use Rattle.plan.specs.Sweep.{sweep_of}
use Rattle.plan.specs.SweepLaws.{swept_differs}
use Rattle.plan.specs.SweepMatches.{sweep_matches}
use Rattle.plan.specs.Told.{Told}
use Rattle.etzvanul.specs.Spliced.{spliced, new_image, swept_image}

-- from where a position begins on, the changes of bytes are those of records
spliced_from : (l : List ℕ) (m : ℕ) {cs : List Change} {ps : List patched.Change} → Matches l cs ps → Ascends m ps
    → spliced (offset m l) cs l ≡ patched_bytes ps (drop (offset m l) l)
unfolding spliced patched_bytes
spliced_from l m none up = refl
spliced_from l m (same more) up = spliced_from l m more up
spliced_from l m (made s {cs = cs} {ps = ps} in' begins ends is more) up =
    let n : ℕ = spot_position s in
    let rest : List ℕ = drop (offset m l) l in
    let first = offset_further m n up.0 l in
    let second = offset_further m (suc n) (omega (arith, up.0)) l in
    let here : offset n l - offset m l ≡ offset n rest = omega arith in
    let there : drop (offset (suc n) rest) rest ≡ drop (offset (suc n) l) l =
    drop-drop (offset (suc n) rest) (offset m l) l ∙ ap (λ (k : ℕ). drop k l) (sym second) in
    rw (begins, ends, ← is, here, there, spliced_from l (suc n) more up.1.1)

module _ {l : List ℕ} {t : Table} (told : Told l t) where
  -- from the front
  spliced-patched : {cs : List Change} {ps : List patched.Change} → Matches l cs ps → Ascends 0 ps → spliced 0 cs l ≡ patched_bytes ps l
  spliced-patched {cs} {ps} matches up =
      ap (λ (k : ℕ). spliced k cs l) (sym told.first) ∙ spliced_from l 0 matches up ∙ ap (λ (k : ℕ). patched_bytes ps (drop k l)) told.first

  -- so they make the image of the other table
  pub spliced-image : {cs : List Change} {ps : List patched.Change} {u : Table} → Matches l cs ps → Differs ps t u → spliced 0 cs l ≡ image u
  spliced-image {ps = ps} matches d =
      spliced-patched matches d.ascends ∙ sym (image_patched told.formed told.fits d ∙ ap (patched_bytes ps) told.image)

  -- an event's plan makes the image of the table that the event makes
  pub planned_image : {o : Outcome} {plan : Plan} → Planned l t o plan → plan.answer ≡ ACCEPTED
      → new_image (t.count + 1) plan l ≡ image (with_count o.table (t.count + 1))
  planned_image right accepted =
      let changed = right.changed accepted in spliced-image changed.1.0 changed.1.1

  -- and so do COLLECT's changes
  pub swept_image_lem : (p : ℕ) → p < NODES → (sweep_of l p).answer ≡ ACCEPTED
      → swept_image (t.count + 1) l p (sweep_of l p) ≡ image (with_count (by t (collect t p)).table (t.count + 1))
  swept_image_lem p lp accepted = spliced-image (sweep_matches told p lp (sweep_of l p) (t.count + 1)) (swept_differs l t told p lp accepted)
