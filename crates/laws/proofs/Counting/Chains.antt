-- Law C of a table and the ranks of its objects say the same: along Parent the owner is reached in at most seven steps (document 01, law C;
-- PROOF-PLAN, "Law C"). Assumes nothing.
use Rattle.std.specs.Prelude.{◌≡◌, refl, ◌⊎◌, true, false, ◌+ℤ◌}
use Rattle.std.proofs.Common.{sym, ap, ap₂, ◌∙◌, inl, inr, ⊎_elim, true≢false, sub-one, arith}
use Prim.Native.Nat.{ℕ, zero, suc, ◌+◌, ◌≤◌, ◌<◌}
use borrow.Author.Tests.{lt-ltb}
use Rattle.terms.specs.Limits.{NODES, OBJECTS, PLACES, STEPS}
use Rattle.entry.specs.declared.Directory.{Directory}
use Rattle.entry.specs.declared.Remote.{Remote}
use Rattle.entry.specs.declared.Entry.{Entry}
use Rattle.entry.specs.declared.Entry.TheVariants.{Absent, AtOwner, Elsewhere}
use Rattle.entry.specs.Entry.{is_absent, rc_of, weight_under}
use Rattle.entry.specs.FitsLaws.{away}
use Rattle.counting.proofs.Under.{weight_counted, height, height_falls, height_bound}
use Rattle.table.specs.Depth.{Depth}
use Rattle.table.specs.Depth.{Steps, NotReached}
use Rattle.table.specs.declared.Table.{Table}
use Rattle.table.specs.Depth.{further, onward, depth_by, depth_number, depth_report}
use Rattle.table.specs.DepthLaws.{depth_by_owner, depth_by_onward, depth_by_bound}
use Rattle.table.specs.Shape.{fits_table}
use Rattle.table.specs.ShapeLaws.{shaped}
use Rattle.table.specs.Table.{entry_at}
use Rattle.laws.proofs.Counting.Counts.{under_own, under_parent}
use Rattle.laws.specs.Counting.Lawful.{rules, share, Lawful}
use Rattle.laws.proofs.Counting.LawfulKept.{total_is}
use Rattle.laws.specs.LawA.{LawA}
use Rattle.laws.specs.LawB.{LawB}
use Rattle.laws.specs.LawC.{LawC}

-- a count stands in an entry
counted_stands : (e : Entry) → 0 < rc_of e → is_absent e ≡ false
counted_stands Absent some = absurd (omega arith)
counted_stands (AtOwner d) some = refl
counted_stands (Elsewhere e) some = refl

-- a remote entry that weighs something under q has the Parent q
weighs_remote : (q : ℕ) (e : Entry) → 0 < weight_under q e → (r : Remote) × (e ≡ Elsewhere r) × (r.parent ≡ q)
weighs_remote q Absent some = absurd (omega arith)
weighs_remote q (AtOwner d) some = absurd (omega arith)
weighs_remote q (Elsewhere r) some = (r, refl, sym (under_parent q r some))

-- no way has no number of steps
unreached : (d : ℕ) → NotReached ≡ Steps d → ⊥
unreached d e = let z : ◌≡◌ {A = ℕ} 0 1 = cc in omega arith

-- where g finds each way that f finds, one goes on by g as by f
onward_more : (e : Entry) (f g : ℕ → Depth) (d : ℕ) → ((q k : ℕ) → f q ≡ Steps k → g q ≡ Steps k) → onward e f ≡ Steps d → onward e g ≡ Steps d
onward_more Absent f g d more found = found
onward_more (AtOwner x) f g d more found = found
onward_more (Elsewhere r) f g d more found = go (f r.parent) refl found
  where
    go : (x : Depth) → f r.parent ≡ x → further x ≡ Steps d → further (g r.parent) ≡ Steps d
    go (Steps k) e found = ap further (more r.parent k e) ∙ found
    go NotReached e found = absurd (unreached d found)

-- an entry is a directory or a remote one
sort : (e : Entry) → is_absent e ≡ false → ((d : Directory) × (e ≡ AtOwner d)) ⊎ ((r : Remote) × (e ≡ Elsewhere r))
sort Absent stands = absurd (true≢false stands)
sort (AtOwner d) stands = inl (d, refl)
sort (Elsewhere r) stands = inr (r, refl)

module _ (t : Table) (o : ℕ) (shape : fits_table t ≡ true) (lo : o < OBJECTS) where
  -- in a table in shape the report is the depth
  report_is : (p : ℕ) → p < NODES → depth_report t p o ≡ depth_number (depth_by STEPS t o p)
  unfolding depth_report
  report_is p lp = rw (lt-ltb p NODES lp, lt-ltb o OBJECTS lo, shape)

  -- ---- ranks give depths

  module _ (lawful : Lawful t o) where
    -- the Parent of a remote entry is a node of lower rank with an entry
    parent_below : (p : ℕ) → p < NODES → (r : Remote) → entry_at t p o ≡ Elsewhere r
        → (r.parent < NODES) × (height (rules o) (share t o) lawful r.parent < height (rules o) (share t o) lawful p)
        × (is_absent (entry_at t r.parent o) ≡ false)
    parent_below p lp r here =
        let fits = (away p o r (rw here at ((shaped t shape).entries p o lp lo))).parts in
        let weighs : 0 < weight_under r.parent (entry_at t p o) = rw (here, under_own r) fits.positive in (
          fits.parent,
          height_falls (rules o) (share t o) lawful p r.parent lp fits.parent weighs,
          counted_stands (entry_at t r.parent o) (omega (arith, weight_counted (rules o) (share t o) lawful p r.parent lp fits.parent)),
        )

    -- the way from a node has no more steps than there are nodes of lower rank
    reached : (n p : ℕ) → p < NODES → height (rules o) (share t o) lawful p ≤ n → is_absent (entry_at t p o) ≡ false
        → (d : ℕ) × (depth_by n t o p ≡ Steps d)
    reached zero p lp high stands =
        ⊎_elim
        (λ at. (0, depth_by_owner t o p 0 at.0 at.1))
        (λ at. absurd (omega (arith, (parent_below p lp at.0 at.1).1)))
        (sort (entry_at t p o) stands)
    reached (suc n) p lp high stands =
        ⊎_elim
        (λ at. (0, depth_by_owner t o p (suc n) at.0 at.1))
        (λ at.
        let next = parent_below p lp at.0 at.1 in
        let way = reached n at.0.parent next.0 (omega (arith, next.1)) next.2 in
        (way.0 + 1, depth_by_onward t o p (suc n) at.0 (λ e. absurd (omega arith)) at.1 ∙ rw (sub-one, way.1)))
        (sort (entry_at t p o) stands)

    -- wherever an entry stands, its depth is reported
    pub depth_within : (p : ℕ) → p < NODES → is_absent (entry_at t p o) ≡ false → depth_report t p o ≤ STEPS
    depth_within p lp stands =
        let way = reached STEPS p lp (omega (arith, height_bound (rules o) (share t o) lawful p lp)) stands in
        rw (report_is p lp, way.1) (depth_by_bound STEPS t o p way.0 way.1)

  -- ---- depths give ranks

  -- a way that was found is found with more steps allowed
  more_steps : (n p d : ℕ) → depth_by n t o p ≡ Steps d → depth_by (suc n) t o p ≡ Steps d
  unfolding depth_by
  more_steps zero p d = onward_more (entry_at t p o) (λ q. NotReached) (λ q. depth_by 0 t o q) d (λ q k e. absurd (unreached k e))
  more_steps (suc n) p d = onward_more (entry_at t p o) (λ q. depth_by n t o q) (λ q. depth_by (suc n) t o q) d (λ q k. more_steps n q k)

  module _ (reported : (p : ℕ) → p < NODES → is_absent (entry_at t p o) ≡ false → depth_report t p o ≤ STEPS) where
    -- the report of the Parent is one less
    depth_falls : (p q : ℕ) → p < NODES → q < NODES → 0 < weight_under q (entry_at t p o) → depth_report t q o < depth_report t p o
    depth_falls p q lp lq weighs =
        let at = weighs_remote q (entry_at t p o) weighs in
        let onward = depth_by_onward t o p STEPS at.0 (λ e. absurd (omega arith)) at.1 in
        let here : depth_report t p o ≡ depth_number (further (depth_by 6 t o q)) =
        report_is p lp ∙ ap depth_number (onward ∙ ap (λ (x : ℕ). further (depth_by 6 t o x)) at.2) in
        go (depth_by 6 t o q) refl here (reported p lp (ap is_absent at.1))
      where
        go : (x : Depth) → depth_by 6 t o q ≡ x → depth_report t p o ≡ depth_number (further x) → depth_report t p o ≤ STEPS
            → depth_report t q o < depth_report t p o
        go (Steps k) way here within = let there : depth_report t q o ≡ k = report_is q lq ∙ ap depth_number (more_steps 6 q k way) in omega arith
        go NotReached way here within = absurd (omega arith)

-- ---- all objects

-- law C of a table whose objects are lawful
pub law_c : (t : Table) → fits_table t ≡ true → ((o : ℕ) → o < OBJECTS → Lawful t o) → LawC t
law_c t shape lawful p o lp lo = depth_within t o shape lo (lawful o lo) p lp

-- laws A, B and C of the table are the laws of each object
pub lawful_table : (t : Table) → fits_table t ≡ true → LawA t → LawB t → LawC t → (o : ℕ) → o < OBJECTS → Lawful t o
lawful_table t shape law_a law_b law_c o lo = record {
  law_a = λ p lp. law_a p o lp lo;
  law_b = sym (ap₂ ◌+ℤ◌ (total_is 0 NODES _) (total_is 0 PLACES _)) ∙ law_b o lo;
  rank = λ p. depth_report t p o;
  falls = depth_falls t o shape lo (λ p lp. law_c p o lp lo);
}
