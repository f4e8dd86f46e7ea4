-- What a collection comes to, is what COLLECT decides. Assumes nothing.
use Rattle.std.specs.Prelude.{◌≡◌, refl, Bool, true, false, not, List, ℕ, Result, Ok, Err, if◌then◌else◌}
use Rattle.terms.specs.Numbers.{TORN}
use Rattle.terms.specs.Refusals.{number_of}
use Rattle.terms.specs.declared.Refusal.{Refusal}
use Rattle.terms.specs.declared.Refusal.TheVariants.{Torn}
use Rattle.heap.specs.declared.Heap.{Heap}
use Rattle.heap.specs.declared.Marks.{Marks}
use Rattle.step.specs.declared.Collection.{Collection}
use Rattle.step.specs.CollectParts.{collection_of, is_whole}
use Rattle.plan.specs.Change.{Sweep}
use Rattle.plan.specs.Made.{tested}
use Rattle.plan.specs.Sweep.{refused_sweep, swept_with, sweep_with, kept_in, held_in}

abbrev pub sweep_from : Result Collection Refusal → Sweep
sweep_from (Ok c) = tested c
sweep_from (Err refusal) = refused_sweep (number_of refusal)

abbrev pub node_of : ℕ → Result Collection Refusal → ℕ
node_of p (Ok c) = c.node
node_of p (Err refusal) = p

module _ (h : Heap) (p : ℕ) (counted : List Bool) (present : Marks) where
  abbrev kept : List Bool
  kept = kept_in h counted p

  abbrev made : Collection
  made = record { heap = h; node = p; present = present; kept = record { seen = kept }; held = record { seen = held_in h kept p } }

  pub sweep_from-collection_of : sweep_from (collection_of h p counted present) ≡ sweep_with h present.seen kept p
  unfolding collection_of sweep_with
  sweep_from-collection_of = go (is_whole h p present.seen kept)
    where
      go : (b : Bool) → sweep_from (if b then Ok made else Err Torn) ≡ (if not b then refused_sweep TORN else swept_with h present.seen kept p)
      go true = refl
      go false = refl

  pub node_of-collection_of : node_of p (collection_of h p counted present) ≡ p
  unfolding collection_of
  node_of-collection_of = go (is_whole h p present.seen kept)
    where
      go : (b : Bool) → node_of p (if b then Ok made else Err Torn) ≡ p
      go true = refl
      go false = refl
