-- What the depth comes to by what stands at a node, and that it is no more than the steps allowed. Assumes nothing.
use Rattle.std.specs.Prelude.{◌≡◌, refl, Option, Some, None}
use Prim.Native.Nat.{ℕ, zero, suc, ◌+◌, ◌-◌, ◌≤◌}
use Rattle.std.proofs.Common.{sub-one, arith}
use Rattle.entry.specs.declared.Directory.{Directory}
use Rattle.entry.specs.declared.Remote.{Remote}
use Rattle.entry.specs.declared.Entry.{Entry}
use Rattle.entry.specs.declared.Entry.TheVariants.{Absent, AtOwner, Elsewhere}
use Rattle.table.specs.declared.Table.{Table}
use Rattle.table.specs.Table.{entry_at}
use Rattle.table.specs.Depth.{Depth, Steps, NotReached, depth_of, further, onward, depth_by}

module _ (t : Table) (o p : ℕ) where
  -- no entry, no depth
  pub depth_by_absent : (n : ℕ) → entry_at t p o ≡ Absent → depth_by n t o p ≡ NotReached
  unfolding depth_by
  depth_by_absent zero e = simp e
  depth_by_absent (suc n) e = simp e

  -- a directory is where the way ends
  pub depth_by_owner : (n : ℕ) (d : Directory) → entry_at t p o ≡ AtOwner d → depth_by n t o p ≡ Steps 0
  unfolding depth_by
  depth_by_owner zero d e = simp e
  depth_by_owner (suc n) d e = simp e

  -- a remote entry with no step left
  pub depth_by_last : (n : ℕ) (r : Remote) → n ≡ 0 → entry_at t p o ≡ Elsewhere r → depth_by n t o p ≡ NotReached
  unfolding depth_by
  depth_by_last zero r z e = simp e
  depth_by_last (suc n) r z e = absurd (omega arith)

  -- a remote entry with a step left: a step further than from its Parent
  pub depth_by_onward : (n : ℕ) (r : Remote) → (n ≡ 0 → ⊥) → entry_at t p o ≡ Elsewhere r → depth_by n t o p ≡ further (depth_by (n - 1) t o r.parent)
  unfolding depth_by
  depth_by_onward zero r nz e = absurd (nz refl)
  depth_by_onward (suc n) r nz e = simp (sub-one, e)

-- no more steps than were allowed
pub depth_by_bound : (n : ℕ) (t : Table) (o p d : ℕ) → depth_by n t o p ≡ Steps d → d ≤ n
unfolding depth_by
depth_by_bound zero t o p d = go (entry_at t p o)
  where
    go : (x : Entry) → onward x (λ q. NotReached) ≡ Steps d → d ≤ 0
    go Absent e = let z : ◌≡◌ {A = ℕ} 0 1 = cc in absurd (omega arith)
    go (AtOwner x) e = let q : 0 ≡ d = cc in omega arith
    go (Elsewhere x) e = let z : ◌≡◌ {A = ℕ} 0 1 = cc in absurd (omega arith)
depth_by_bound (suc n) t o p d = go (entry_at t p o) (λ q. depth_by_bound n t o q)
  where
    step : (r : Depth) → ((k : ℕ) → r ≡ Steps k → k ≤ n) → further r ≡ Steps d → d ≤ suc n
    step (Steps k) below e = let q : k + 1 ≡ d = cc in omega (arith, below k refl)
    step NotReached below e = let z : ◌≡◌ {A = ℕ} 0 1 = cc in absurd (omega arith)

    go : (x : Entry) → ((q k : ℕ) → depth_by n t o q ≡ Steps k → k ≤ n) → onward x (λ q. depth_by n t o q) ≡ Steps d → d ≤ suc n
    go Absent below e = let z : ◌≡◌ {A = ℕ} 0 1 = cc in absurd (omega arith)
    go (AtOwner x) below e = let q : 0 ≡ d = cc in omega arith
    go (Elsewhere x) below e = step (depth_by n t o x.parent) (below x.parent) e

-- no two answers tell one depth, so what tells the depth leaves nothing open
pub depth_of_one : (a b : Option ℕ) → depth_of a ≡ depth_of b → a ≡ b
depth_of_one (Some a) (Some b) e = let q : a ≡ b = cc in rw q
depth_of_one (Some a) None e = let z : ◌≡◌ {A = ℕ} 0 1 = cc in absurd (omega arith)
depth_of_one None (Some b) e = let z : ◌≡◌ {A = ℕ} 0 1 = cc in absurd (omega arith)
depth_of_one None None e = refl
