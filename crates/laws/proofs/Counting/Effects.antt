-- The effect of each act of specs/Counting/Change.antt on the counts of its object, for an entry and a message in shape (PROOF-PLAN, the table
-- "Laws A and B, act by act"). Assumes nothing.
use Rattle.std.specs.Prelude.{◌≡◌, ◌≢◌, Bool, not, ℕ, ◌+◌, leb, ltb, ℤ, negsuc, ◌+ℤ◌, if◌then◌else◌}
use Rattle.std.proofs.Math.Path.{refl, sym}
use Rattle.std.proofs.Common.{ap, ◌∙◌, inr, true≢false, arith}
use Rattle.std.proofs.Math.Logic.{inl}
use Rattle.std.proofs.Math.Bool.{true, false}
use Rattle.std.proofs.Math.Dec.{eqb}
use Rattle.std.proofs.Math.IntN.{pos, +ℤ_comm, +ℤ_idr}
use borrow.Author.Tests.{eqb-true, eqb-false, leb-true, eq-eqb}
use Rattle.terms.specs.Choose.{◌and◌}
use Rattle.terms.proofs.ChooseLaws.{and_passes}
use Rattle.terms.specs.Counted.{one}
use Rattle.terms.specs.Limits.{MOST, owner}
use Rattle.terms.specs.Numbers.{ACCEPTED, TORN}
use Rattle.entry.specs.declared.ReturnCount.{ReturnCount}
use Rattle.entry.specs.declared.Weight.{Weight}
use Rattle.entry.specs.declared.Directory.{Directory}
use Rattle.entry.specs.declared.Remote.{Remote}
use Rattle.entry.specs.declared.Entry.{Entry}
use Rattle.entry.specs.Acts.{DirectoryAct}
use Rattle.entry.specs.Acts.{RemoteAct}
use Rattle.entry.specs.AtNode.{EntryAct}
use Rattle.entry.specs.declared.Entry.TheVariants.{Absent, AtOwner, Elsewhere}
use Rattle.entry.specs.Acts.{stays, used_with, first_sent, first_received}
use Rattle.entry.specs.Acts.{directory_sent, directory_came_home, directory_settled, remote_sent, remote_sent_home, remote_received_again, remote_settled}
use Rattle.entry.specs.AtNode.{done, torn, refuses, of_remote, holder_sent, sent, received, settled, set_unused, may_go}
use Rattle.entry.specs.Entry.{both, fewer, more, none, weight, weight_under, msg_ctr_of, is_none}
use Rattle.entry.specs.Fits.{fits_directory_returns, fits_returns, fits_entry}
use Rattle.entry.specs.FitsLaws.{Away, away, home}
use Rattle.counting.proofs.Turned.{Turn}
use Rattle.table.specs.declared.Message.{Message}
use Rattle.table.specs.declared.Message.TheVariants.{Empty, Reference, Decrement}
use Rattle.table.specs.Shape.{fits_message}
use Rattle.table.specs.ShapeLaws.{decrement_fits, reference_fits}
use Rattle.step.specs.Drop.{last_words}
use Rattle.step.specs.Receive.{reply}
use Rattle.laws.specs.Counting.Change.{Act, other, same, sends, receives, settles, unused, drops, clears}
use Rattle.laws.proofs.Counting.Counts.{under, under_parent, none_is, away_air, away_home, decrement_air, decrement_carried}
use Rattle.laws.proofs.Counting.Effect.{Effect, turned_effect}
use Rattle.laws.specs.Counting.Lawful.{rules}
use Rattle.laws.proofs.Counting.Passings.{passes_foreign, passes_still, passes_sent, passes_home, passes_came, passes_answered, passes_settled}
use Rattle.laws.specs.LawA.{air_under}
use Rattle.laws.specs.LawB.{returns_in}

-- an act that is not refused passed its test
test_passed : {A : Type 0} (refusal : A → ℕ) (b : Bool) (a c : A) → refusal c ≡ TORN
    → not (eqb (refusal (if b then a else c)) ACCEPTED) ≡ false → b ≡ true
test_passed refusal true a c e ok = refl
test_passed refusal false a c e ok = absurd (true≢false (ap (λ (n : ℕ). not (eqb n ACCEPTED)) (sym e) ∙ ok))

module _ (o p : ℕ) where
  -- ---- SEND

  module _ (q : ℕ) where
    -- RC + 1 for a reference to another node than the owner
    counted : {e e' : Entry} → q ≢ owner o → Turn (rules o) 0 1 (pos 0) e e' → Effect o p e Empty e' (Reference p q o)
    counted away turn = turned_effect o p 0 1 (pos 0) turn (passes_sent o p q away)

    -- MsgCtr + 1 for one that goes home
    returned : {e e' : Entry} → q ≡ owner o → Turn (rules o) 0 0 (pos 1) e e' → Effect o p e Empty e' (Reference p q o)
    returned home turn = turned_effect o p 0 0 (pos 1) turn (passes_home o p q home)

    -- a holder sends, with Presence true, home or on to another node
    abbrev holding : Remote → Bool → Bool → EntryAct
    holding e present home = if present then (if home then of_remote (remote_sent_home e) else of_remote (remote_sent e)) else torn (Elsewhere e)

    holder_effect : (e : Remote) (present home : Bool) → eqb q (owner o) ≡ home → refuses (holding e present home) ≡ false
        → Effect o p (Elsewhere e) Empty (holding e present home).entry (Reference p q o)
    unfolding remote_sent remote_sent_home
    holder_effect e false home to ok = absurd (true≢false ok)
    holder_effect e true true to ok =
        rw (test_passed (λ (a : RemoteAct). a.refusal) (stays fits_returns e.msg_ctr (more e.msg_ctr)) _ _ refl ok)
        (returned (eqb-true q (owner o) to) (record { counts = refl; weights = λ x. refl; returns = refl }))
    holder_effect e true false to ok =
        rw (test_passed (λ (a : RemoteAct). a.refusal) (ltb e.rc MOST) _ _ refl ok)
        (counted (eqb-false q (owner o) to) (record { counts = omega arith; weights = λ x. refl; returns = sym (+ℤ_idr e.msg_ctr.0) }))

    -- whoever sends
    sent_effect : p ≢ q → (e : Entry) → fits_entry p o e ≡ true → refuses (sent p q o e) ≡ false
        → Effect o p e Empty (sent p q o e).entry (Reference p q o)
    unfolding sent holder_sent directory_sent
    sent_effect apart Absent fits ok = go (eqb p (owner o)) refl ok
      where
        go : (b : Bool) → eqb p (owner o) ≡ b → refuses (if b then done (AtOwner first_sent) else torn Absent) ≡ false
            → Effect o p Absent Empty (if b then done (AtOwner first_sent) else torn Absent).entry (Reference p q o)
        go true at ok = counted (λ e. apart (eqb-true p (owner o) at ∙ sym e)) (record { counts = refl; weights = λ x. refl; returns = refl })
        go false at ok = absurd (true≢false ok)
    sent_effect apart (AtOwner d) fits ok =
        rw (test_passed (λ (a : DirectoryAct). a.refusal) (ltb d.rc MOST) _ _ refl ok)
        (counted (λ e. apart ((home p o d fits).own ∙ sym e))
        (record { counts = omega arith; weights = λ x. refl; returns = sym (+ℤ_idr d.msg_ctr.0) }))
    sent_effect apart (Elsewhere e) fits ok = holder_effect e e.presence (eqb q (owner o)) refl ok

  -- ---- SETTLE

  module _ (q : ℕ) (m : ReturnCount) (n : Weight) where
    -- RC - n and MsgCtr + m for a decrement
    taken : {e e' : Entry} → fits_returns m ≡ true → Turn (rules o) n.0 0 m.0 e e' → Effect o p e (Decrement q p o m n) e' Empty
    taken natural turn = turned_effect o p n.0 0 m.0 turn (passes_settled o p q m n natural)

    -- whoever settles
    settled_effect : (e : Entry) → fits_returns m ≡ true → refuses (settled m n e) ≡ false
        → Effect o p e (Decrement q p o m n) (settled m n e).entry Empty
    unfolding settled directory_settled remote_settled
    settled_effect Absent natural ok = absurd (true≢false ok)
    settled_effect (AtOwner d) natural ok =
        let test = test_passed (λ (a : DirectoryAct). a.refusal)
        (leb n.0 d.rc and fits_returns m and stays fits_directory_returns d.msg_ctr (both d.msg_ctr m)) _ _ refl ok in
        let enough = leb-true n.0 d.rc ((and_passes (leb n.0 d.rc) _).0 test).0 in
        rw test (taken natural (record { counts = omega arith; weights = λ x. refl; returns = refl }))
    settled_effect (Elsewhere e) natural ok =
        let test = test_passed (λ (a : RemoteAct). a.refusal)
        (leb n.0 e.rc and fits_returns m and stays fits_returns e.msg_ctr (both e.msg_ctr m)) _ _ refl ok in
        let enough = leb-true n.0 e.rc ((and_passes (leb n.0 e.rc) _).0 test).0 in
        rw test (taken natural (record { counts = omega arith; weights = λ x. refl; returns = refl }))

  -- ---- acts that leave the message as it is

  -- nothing counted changes
  idle : {e e' : Entry} {x : Message} → Turn (rules o) 0 0 (pos 0) e e' → Effect o p e x e' x
  idle {x = x} turn = turned_effect o p 0 0 (pos 0) turn (passes_still o p x)

  -- Presence is not counted
  unused_turn : (e : Entry) → Turn (rules o) 0 0 (pos 0) e (set_unused e)
  unused_turn Absent = record { counts = refl; weights = λ x. refl; returns = refl }
  unused_turn (AtOwner d) = record { counts = refl; weights = λ x. refl; returns = sym (+ℤ_idr d.msg_ctr.0) }
  unused_turn (Elsewhere e) = record { counts = refl; weights = λ x. refl; returns = sym (+ℤ_idr e.msg_ctr.0) }

  -- the entry stays
  same_turn : (e : Entry) → Turn (rules o) 0 0 (pos 0) e e
  same_turn e = record { counts = refl; weights = λ x. refl; returns = sym (+ℤ_idr (msg_ctr_of e)) }

  -- a directory that may go counts for nothing
  cleared_turn : (d : Directory) → may_go (AtOwner d) ≡ true → Turn (rules o) 0 0 (pos 0) (AtOwner d) Absent
  unfolding may_go
  cleared_turn d may =
      let clear = (and_passes (eqb d.rc 0) (is_none d.msg_ctr.0)).0 may in
      let zero_count = eqb-true d.rc 0 clear.0 in
      record { counts = omega arith; weights = λ x. refl; returns = rw (none_is d.msg_ctr.0 clear.1) }

  -- ---- acts that move weight

  -- RECEIVE of a first reference: an entry is made
  made : (q : ℕ) → p ≢ owner o → q ≢ p → Effect o p Absent (Reference q p o) (Elsewhere (first_received q)) Empty
  made q away apart = record {
    balanced = record {
      here = omega (arith, arrives p);
      there = λ x ne. arrives x;
      back = rw (away_home o q p away);
      placed = inr (refl, q, apart, λ x some. under_parent x (first_received q) some);
    };
    counts = omega arith;
    returns = omega arith;
    owed = omega arith;
  }
    where
      arrives : (x : ℕ) → 0 + air_under x o (Reference q p o) ≡ weight_under x (Elsewhere (first_received q)) + 0
      arrives x = omega (arith, away_air o q p away x, under x (first_received q))

  -- RECEIVE of another from the Parent: it is merged into the weight
  merged : (q : ℕ) (e : Remote) → Away p o e → e.parent ≡ q
      → Effect o p (Elsewhere e) (Reference q p o) (Elsewhere (used_with e (weight (e.ref_weight.0 + 1)))) Empty
  merged q e fits from = record {
    balanced = record {
      here = omega (arith, arrives p);
      there = λ x ne. arrives x;
      back = rw (away_home o q p fits.elsewhere);
      placed = inl (λ x some. rw (under x e, eq-eqb e.parent x (sym (under_parent x more_weight some))) fits.parts.positive);
    };
    counts = omega arith;
    returns = omega arith;
    owed = omega arith;
  }
    where
      more_weight : Remote
      more_weight = used_with e (weight (e.ref_weight.0 + 1))

      arrives : (x : ℕ) → weight_under x (Elsewhere e) + air_under x o (Reference q p o) ≡ weight_under x (Elsewhere more_weight) + 0
      arrives x = rw (away_air o q p fits.elsewhere x, under x e, under x more_weight, ← from) (go (eqb e.parent x))
        where
          go : (b : Bool) → (if b then e.ref_weight.0 else 0) + one b ≡ (if b then e.ref_weight.0 + 1 else 0) + 0
          go true = omega arith
          go false = refl

  -- DROP of a remote entry: its weight and its return count go into a decrement
  dropped : (e : Remote) → may_go (Elsewhere e) ≡ true → Effect o p (Elsewhere e) Empty Absent (last_words p o e)
  unfolding may_go
  dropped e may = record {
    balanced = record {
      here = omega (arith, leaves p, zero_count);
      there = λ x ne. leaves x;
      back = rw carried (ap (λ (z : ℤ). z +ℤ pos 0) (+ℤ_comm (pos 0) e.msg_ctr.0));
      placed = inl (λ x some. absurd (omega arith));
    };
    counts = omega arith;
    returns = rw carried (omega arith);
    owed = omega arith;
  }
    where
      zero_count : e.rc ≡ 0
      zero_count = eqb-true e.rc 0 ((and_passes (not e.presence) (eqb e.rc 0)).0 may).1

      carried : returns_in o (last_words p o e) ≡ e.msg_ctr.0
      carried = decrement_carried o p e.parent e.msg_ctr e.ref_weight

      leaves : (x : ℕ) → weight_under x (Elsewhere e) + 0 ≡ 0 + air_under x o (last_words p o e)
      leaves x = omega (arith, under x e, decrement_air o p e.parent e.msg_ctr e.ref_weight x)

  -- ---- RECEIVE

  -- MsgCtr - 1 for a reference that came home
  came_home : (q : ℕ) (d : Directory) → p ≡ owner o → refuses (received q p o (AtOwner d)) ≡ false
      → Effect o p (AtOwner d) (Reference q p o) (received q p o (AtOwner d)).entry Empty
  unfolding received directory_came_home
  came_home q d home ok =
      rw (test_passed (λ (a : DirectoryAct). a.refusal) (stays fits_directory_returns d.msg_ctr (fewer d.msg_ctr)) _ _ refl ok)
      (turned_effect o p 0 0 (negsuc 0) (record { counts = refl; weights = λ x. refl; returns = refl }) (passes_came o p q home))

  -- Presence alone for one that a decrement answers
  answered : (q : ℕ) (e : Remote) → p ≢ owner o
      → Effect o p (Elsewhere e) (Reference q p o) (Elsewhere (used_with e e.ref_weight)) (Decrement p q o none (weight 1))
  answered q e away =
      turned_effect o p 0 0 (pos 0)
      (record { counts = refl; weights = λ x. refl; returns = sym (+ℤ_idr e.msg_ctr.0) })
      (passes_answered o p q away)

  -- the act on a remote entry when a reference arrives, by whether it comes from the Parent
  abbrev again : Remote → Bool → RemoteAct
  again e parent =
      if not parent then record { refusal = ACCEPTED; entry = used_with e e.ref_weight }
      else if ltb e.ref_weight.0 MOST then record { refusal = ACCEPTED; entry = used_with e (weight (e.ref_weight.0 + 1)) }
      else record { refusal = TORN; entry = e }

  -- whoever receives
  received_effect : (q : ℕ) → q ≢ p → (e : Entry) → fits_entry p o e ≡ true → refuses (received q p o e) ≡ false
      → Effect o p e (Reference q p o) (received q p o e).entry (reply q p o e)
  unfolding received remote_received_again
  received_effect q apart Absent fits ok = go (eqb p (owner o)) refl ok
    where
      go : (b : Bool) → eqb p (owner o) ≡ b → refuses (if b then torn Absent else done (Elsewhere (first_received q))) ≡ false
          → Effect o p Absent (Reference q p o) (if b then torn Absent else done (Elsewhere (first_received q))).entry Empty
      go true at ok = absurd (true≢false ok)
      go false at ok = made q (eqb-false p (owner o) at) apart
  received_effect q apart (AtOwner d) fits ok = came_home q d (home p o d fits).own ok
  received_effect q apart (Elsewhere e) fits ok = go (eqb e.parent q) refl ok
    where
      go : (b : Bool) → eqb e.parent q ≡ b → refuses (of_remote (again e b)) ≡ false
          → Effect o p (Elsewhere e) (Reference q p o) (Elsewhere (again e b).entry) (if b then Empty else Decrement p q o none (weight 1))
      go true from ok =
          rw (test_passed (λ (a : RemoteAct). a.refusal) (ltb e.ref_weight.0 MOST) _ _ refl ok)
          (merged q e (away p o e fits) (eqb-true e.parent q from))
      go false from ok = answered q e (away p o e fits).elsewhere

  -- ---- every act

  -- for an entry and a message in shape
  pub act_effect : {e : Entry} {x : Message} {e' : Entry} {y : Message} → Act o p e x e' y
      → fits_entry p o e ≡ true → fits_message x ≡ true → Effect o p e x e' y
  act_effect (other {e = e} {x = x} {y = y} ex ey) fits way = turned_effect o p 0 0 (pos 0) (same_turn e) (passes_foreign o p x y ex ey)
  act_effect (same {e = e}) fits way = idle (same_turn e)
  act_effect (sends {e = e} {q = q} apart number ok) fits way = sent_effect q apart e fits ok
  act_effect (receives {e = e} {q = q} ok) fits way = received_effect q (reference_fits q p o way).away e fits ok
  act_effect (settles {e = e} {q = q} {m = m} {n = n} ok) fits way = settled_effect q m n e (decrement_fits q p o m n way).returns ok
  act_effect (unused {e = e}) fits way = idle (unused_turn e)
  act_effect (drops {e = e} may) fits way = dropped e may
  act_effect (clears {d = d} may) fits way = idle (cleared_turn d may)
