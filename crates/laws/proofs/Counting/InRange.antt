-- No act is refused for its counts in a lawful table whose counts are within its event count: SETTLE finds an entry and enough in it, RECEIVE a
-- directory at the owner, SEND one of a holder, and no count leaves its range (document 01, "TORN"; PROOF-PLAN, "The field").
-- Assumes nothing.
use Rattle.std.specs.Prelude.{◌≡◌, refl, ◌⊎◌, true, false, ℕ, suc, ◌+◌, ◌≤◌, ◌<◌, ℤ, ◌+ℤ◌}
use Rattle.std.proofs.Common.{sym, ap, ◌∙◌, inl, inr, true≢false, arith}
use Rattle.std.proofs.lemmas.Bool.{false≢true}
use Rattle.std.proofs.Math.Bool.{not-eq-not}
use Rattle.std.proofs.Math.Decide.{ℕ_discrete}
use Rattle.std.proofs.Math.IntN.{pos, negsuc}
use borrow.Author.Tests.{eq-eqb, ne_eqb, le-leb, lt-ltb}
use Rattle.terms.proofs.CountedLaws.{sum_at}
use Rattle.terms.specs.Limits.{MOST, NODES, OBJECTS, PLACES, owner}
use Rattle.entry.specs.declared.ReturnCount.{ReturnCount}
use Rattle.entry.specs.declared.Weight.{Weight}
use Rattle.entry.specs.declared.Remote.{Remote}
use Rattle.entry.specs.declared.Entry.{Entry}
use Rattle.entry.specs.declared.Entry.TheVariants.{Absent, AtOwner, Elsewhere}
use Rattle.entry.specs.Acts.{directory_sent, directory_came_home, directory_settled, remote_sent, remote_sent_home, remote_received_again, remote_settled}
use Rattle.entry.specs.AtNode.{refuses, holder_sent, sent, received, settled}
use Rattle.entry.specs.Entry.{is_clear, is_present, msg_ctr_of, rc_of, weight_under}
use Rattle.entry.specs.Fits.{fits_returns, fits_entry, within_most, natural_most}
use Rattle.entry.specs.FitsLaws.{away, natural_returns}
use Rattle.counting.proofs.Under.{weight_counted, air_counted}
use Rattle.table.specs.declared.Message.TheVariants.{Reference, Decrement}
use Rattle.table.specs.declared.Table.{Table}
use Rattle.table.specs.Shape.{fits_table}
use Rattle.table.specs.ShapeLaws.{decrement_fits, reference_fits, shaped}
use Rattle.table.specs.Table.{entry_at, message_at}
use Rattle.laws.specs.Counting.Change.{is_of}
use Rattle.laws.proofs.Counting.ClearLaws.{clear_means_nobody}
use Rattle.laws.proofs.Counting.Counts.{under_own, decrement_air, decrement_carried}
use Rattle.laws.proofs.Counting.Effect.{sum_parts}
use Rattle.laws.specs.Counting.Lawful.{rules, share, Lawful}
use Rattle.laws.specs.Counting.Within.{Within}
use Rattle.laws.specs.LawA.{air_under}
use Rattle.laws.specs.LawB.{returns_in}
use Rattle.laws.specs.Sound.{above, below}

-- ---- ranges

-- within the range of a directory's return count
directory_range : (z : ℤ) → above z ≤ MOST → below z ≤ MOST → within_most z ≡ true
directory_range (pos n) up down = le-leb n MOST up
directory_range (negsuc n) up down = le-leb (suc n) MOST down

-- within the range of a remote entry's
remote_range : (z : ℤ) → below z ≡ 0 → above z ≤ MOST → natural_most z ≡ true
remote_range (pos n) down up = le-leb n MOST up
remote_range (negsuc n) down up = absurd (omega arith)

-- a return count that is in that range isn't below zero
not_below : (c : ReturnCount) → fits_returns c ≡ true → below c.0 ≡ 0
not_below c fits = ap below (natural_returns c fits)

-- ---- single entries

module _ (p o : ℕ) (n : ℕ) (few : n ≤ MOST) where
  -- a decrement of no more than RC, and return counts that are within the limit together
  settled_in_range : (m : ReturnCount) (w : Weight) (e : Entry) → fits_entry p o e ≡ true → fits_returns m ≡ true → 0 < w.0 → w.0 ≤ rc_of e
      → above (msg_ctr_of e) + above m.0 ≤ n → below (msg_ctr_of e) ≤ n → refuses (settled m w e) ≡ false
  unfolding settled directory_settled remote_settled
  settled_in_range m w Absent fits natural weighs enough up down = absurd (omega arith)
  settled_in_range m w (AtOwner d) fits natural weighs enough up down =
      let parts = sum_parts d.msg_ctr.0 m.0 in
      let before = directory_range d.msg_ctr.0 (omega arith) (omega arith) in
      let after = directory_range (d.msg_ctr.0 +ℤ m.0) (omega arith) (omega (arith, not_below m natural)) in
      rw (le-leb w.0 d.rc enough, natural, before, after)
  settled_in_range m w (Elsewhere e) fits natural weighs enough up down =
      let f = (away p o e fits).parts in
      let parts = sum_parts e.msg_ctr.0 m.0 in
      let after = remote_range (e.msg_ctr.0 +ℤ m.0) (omega (arith, not_below m natural, not_below e.msg_ctr f.returns)) (omega arith) in
      rw (le-leb w.0 e.rc enough, natural, f.returns, after)

module _ (p o : ℕ) (n : ℕ) (low : n < MOST) where
  -- a reference, home only where the directory isn't clear
  received_in_range : (q : ℕ) (e : Entry) → (p ≡ owner o → is_clear e ≡ false) → above (msg_ctr_of e) ≤ n → below (msg_ctr_of e) ≤ n
      → ((r : Remote) → e ≡ Elsewhere r → r.ref_weight.0 < MOST) → refuses (received q p o e) ≡ false
  unfolding received directory_came_home remote_received_again
  received_in_range q Absent clear up down weight =
      rw (ne_eqb p (owner o) (λ e. absurd (true≢false (clear e))))
  received_in_range q (AtOwner d) clear up down weight =
      let parts = sum_parts d.msg_ctr.0 (negsuc 0) in
      let before = directory_range d.msg_ctr.0 (omega arith) (omega arith) in
      let after = directory_range (d.msg_ctr.0 +ℤ negsuc 0) (omega arith) (omega arith) in
      rw (before, after)
  received_in_range q (Elsewhere e) clear up down weight = elim (ℕ_discrete e.parent q) [
    | yes parent ↦ rw (eq-eqb e.parent q parent, lt-ltb e.ref_weight.0 MOST (weight e refl))
    | no another ↦ rw (ne_eqb e.parent q another)
  ]

  -- a reference of the owner, or of a node that has the object in use
  sent_in_range : (q : ℕ) (e : Entry) → fits_entry p o e ≡ true → (p ≡ owner o) ⊎ (is_present e ≡ true) → rc_of e ≤ n → above (msg_ctr_of e) ≤ n
      → refuses (sent p q o e) ≡ false
  unfolding sent directory_sent holder_sent remote_sent remote_sent_home
  sent_in_range q Absent fits (inl owner) count up = rw (eq-eqb p _ owner)
  sent_in_range q Absent fits (inr present) count up = absurd (false≢true present)
  sent_in_range q (AtOwner d) fits holder count up = rw (lt-ltb d.rc MOST (omega arith))
  sent_in_range q (Elsewhere e) fits (inl owner) count up = absurd ((away p o e fits).elsewhere owner)
  sent_in_range q (Elsewhere e) fits (inr present) count up = elim (ℕ_discrete q (owner o)) [
    | yes home ↦
        let natural = (away p o e fits).parts.returns in
        let parts = sum_parts e.msg_ctr.0 (pos 1) in
        let after = remote_range (e.msg_ctr.0 +ℤ pos 1) (omega (arith, not_below e.msg_ctr natural)) (omega arith) in
        rw (present, eq-eqb q (owner o) home, natural, after)
    | no away ↦ rw (present, ne_eqb q (owner o) away, lt-ltb e.rc MOST (omega arith))
  ]

-- ---- tables

-- a return count is part of all
returns_part : {t : Table} {o n : ℕ} → Within n t o → (p s : ℕ) → p < NODES → s < PLACES
    → above (msg_ctr_of (entry_at t p o)) + above (returns_in o (message_at t s)) ≤ n
returns_part {t} {o} within p s lp ls = omega (
  arith,
  sum_at NODES (λ x. above (msg_ctr_of (entry_at t x o))) p lp,
  sum_at PLACES (λ x. above (returns_in o (message_at t x))) s ls,
  within.returns,
)

-- SETTLE, even where the limit is reached
module _ (t : Table) (o : ℕ) (shape : fits_table t ≡ true) (lo : o < OBJECTS) (lawful : Lawful t o)
    (n : ℕ) (few : n ≤ MOST) (within : Within n t o) where
  pub settles_at_most : (s q p : ℕ) (m : ReturnCount) (w : Weight) → s < PLACES → message_at t s ≡ Decrement q p o m w
      → refuses (settled m w (entry_at t p o)) ≡ false
  settles_at_most s q p m w ls here =
      let f = decrement_fits q p o m w (rw here at ((shaped t shape).messages s ls)) in
      let lp = f.path.receiver in
      let air : air_under p o (message_at t s) ≡ w.0 = rw (here, decrement_air o q p m w p, eq-eqb p p refl) in
      let carried : returns_in o (message_at t s) ≡ m.0 = ap (returns_in o) here ∙ decrement_carried o q p m w in
      settled_in_range p o n few m w (entry_at t p o) ((shaped t shape).entries p o lp lo) f.returns f.positive
      (omega (arith, air_counted (rules o) (share t o) lawful s p ls lp))
      (rw carried at (returns_part within p s lp ls))
      (within.owed p lp)

module _ (t : Table) (o : ℕ) (shape : fits_table t ≡ true) (lo : o < OBJECTS) (lawful : Lawful t o)
    (n : ℕ) (low : n < MOST) (within : Within n t o) where
  -- SETTLE
  pub settles_in_range : (s q p : ℕ) (m : ReturnCount) (w : Weight) → s < PLACES → message_at t s ≡ Decrement q p o m w
      → refuses (settled m w (entry_at t p o)) ≡ false
  settles_in_range = settles_at_most t o shape lo lawful n (omega arith) within

  -- while a message of the object is in the air, its directory is not clear
  heard_not_clear : (s : ℕ) → s < PLACES → is_of o (message_at t s) ≡ true → is_clear (entry_at t (owner o) o) ≡ false
  heard_not_clear s ls heard =
      not-eq-not.0 (λ clear. true≢false (sym heard ∙ (clear_means_nobody t o shape lo lawful clear).messages s ls))

  -- a RefWeight is part of the Parent's count
  weight_within : (p : ℕ) → p < NODES → (r : Remote) → entry_at t p o ≡ Elsewhere r → r.ref_weight.0 ≤ n
  weight_within p lp r here =
      let parent = (away p o r (rw here at ((shaped t shape).entries p o lp lo))).parts.parent in
      let weighs : weight_under r.parent (entry_at t p o) ≡ r.ref_weight.0 = rw (here, under_own r) in
      omega (arith, weight_counted (rules o) (share t o) lawful p r.parent lp parent, within.counts r.parent parent)

  -- RECEIVE
  pub receives_in_range : (s q p : ℕ) → s < PLACES → message_at t s ≡ Reference q p o → refuses (received q p o (entry_at t p o)) ≡ false
  receives_in_range s q p ls here =
      let f = reference_fits q p o (rw here at ((shaped t shape).messages s ls)) in
      let lp = f.receiver in
      received_in_range p o n low q (entry_at t p o)
      (λ home. rw home (heard_not_clear s ls (ap (is_of o) here ∙ eq-eqb o o refl)))
      (omega (arith, returns_part within p s lp ls))
      (within.owed p lp)
      (λ r at. omega (arith, weight_within p lp r at))

  -- SEND by the owner, or by a node that has the object in use
  pub sends_in_range : (p q : ℕ) → p < NODES → (p ≡ owner o) ⊎ (is_present (entry_at t p o) ≡ true) → refuses (sent p q o (entry_at t p o)) ≡ false
  sends_in_range p q lp holder =
      sent_in_range p o n low q (entry_at t p o) ((shaped t shape).entries p o lp lo) holder (within.counts p lp)
      (omega (arith, returns_part within p 0 lp (omega arith)))
