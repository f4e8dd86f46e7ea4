-- COLLECT reaches all of its node that anybody uses (PROOF-PLAN, "COLLECT at P keeps it"): a way from any root or reference in the air, through
-- fields on any node, to an object of P comes in the end from a root of P or from an object of P whose directory is not clear; so a
-- reclaimed object was not in use. For any table that is held well and has the bridge. Assumes nothing.
use Rattle.std.specs.Prelude.{◌≡◌, true, false, ◌≢◌, ◌⊎◌, ℕ, ◌<◌}
use Rattle.std.proofs.Common.{sym, ◌∙◌, inl, inr, ⊎_elim, eq-eqb}
use Rattle.std.proofs.Math.Decide.{ℕ_discrete}
use Rattle.terms.specs.Limits.{NODES, OBJECTS, ROOTS, owner}
use Rattle.entry.specs.Entry.{is_clear, is_present}
use Rattle.heap.specs.Heap.{is_live, root_at}
use Rattle.heap.proofs.Reached.{reached_within}
use Rattle.heap.specs.Walk.{started, through, Within, owned_by}
use Rattle.table.specs.declared.Table.{Table}
use Rattle.table.specs.ShapeLaws.{owner_number}
use Rattle.table.specs.Table.{entry_at}
use Rattle.laws.proofs.Heap.Alive.{InRoot, InAir, in_use_is, law_d}
use Rattle.laws.proofs.Heap.Holding.{Named, WellHeld, well_named}
use Rattle.laws.proofs.Heap.Nobody.{Bridge, present_counted, air_counted}
use Rattle.laws.specs.Heap.Starts.{Counted}
use Rattle.laws.proofs.Heap.Starts.{Kept, Reclaimed, starts_is}
use Rattle.laws.specs.LawD.{Used}

module _ {t : Table} (held : WellHeld t) (bridge : Bridge t) where
  -- what is used is live
  pub used_live : {o : ℕ} → Used t o → is_live t.heap o ≡ true
  used_live {o} way = law_d t held.roots held.fields held.references o way

  module _ (p : ℕ) where
    -- an object of p is counted while another node holds it
    pub held_counted : (q x : ℕ) → q < NODES → x < OBJECTS → owner x ≡ p → q ≢ p → Named t q x → Counted t p x
    held_counted q x node lt own other named = record { own = own; unclear = ⊎_elim here there named.way }
      where
        here : owner x ≡ q → is_clear (entry_at t p x) ≡ false
        here mine = absurd (other (sym mine ∙ own))

        there : is_present (entry_at t q x) ≡ true → is_clear (entry_at t p x) ≡ false
        there present = rw own at (present_counted bridge x lt q node (λ e. other (e ∙ own)) present)

    -- whatever of p is used is kept by COLLECT at p
    pub used_kept : {x : ℕ} → Used t x → owner x ≡ p → Kept t p x
    used_kept {x} (started w l) own =
        started (record { number = w.number; inside = eq-eqb (owner x) p own }) ((starts_is t p x).1 (⊎_elim by_root by_air ((in_use_is t x).0 l)))
      where
        by_root : InRoot t x → ((r : ℕ) × (r < ROOTS) × (root_at t.heap p r ≡ x)) ⊎ Counted t p x
        by_root y =
            let (q, node, there) = y in
            let (r, lt, e) = there in
            elim (ℕ_discrete q p) [
              | yes same ↦ inl (rw same at there)
              | no other ↦ inr (held_counted q x node w.number own other (well_named t q x w.number (rw e at (held.roots q r node lt))))
            ]

        by_air : InAir t x → ((r : ℕ) × (r < ROOTS) × (root_at t.heap p r ≡ x)) ⊎ Counted t p x
        by_air y = inr (record { own = own; unclear = rw own at (air_counted bridge x w.number y.0 y.1 y.2) })
    used_kept {x} (through {x = y} way f lt e w) own = elim (ℕ_discrete (owner y) p) [
      | yes same ↦ through (used_kept way same) f lt e within
      | no other ↦ started within ((starts_is t p x).1 (inr (held_counted (owner y) x (owner_number number) w.number own other named)))
    ]
      where
        within : Within (owned_by p) x
        within = record { number = w.number; inside = eq-eqb (owner x) p own }

        number : y < OBJECTS
        number = (reached_within way).number

        named : Named t (owner y) x
        named = well_named t (owner y) x w.number (rw e at (held.fields y f number lt (used_live way)))

    -- what is reclaimed was not used
    pub reclaimed_unused : (o : ℕ) → Reclaimed t p o → Used t o → ⊥
    reclaimed_unused o gone way = gone.unreached (used_kept way gone.own)
