-- How law E is carried along a sequence of accepted events: what every act on object o that is no SEND takes on, with one more counted for a
-- SETTLE, the whole sequence takes on, with as many counted as it has SETTLEs of o. Assumes nothing.
use Rattle.std.specs.Prelude.{◌≡◌, refl, Bool, true, false, List, ℕ, ◌+◌, ◌<◌}
use Rattle.std.proofs.Math.Path.{ap, subst}
use Rattle.std.proofs.Common.{◌∙◌, add_assoc, arith}
use Rattle.std.proofs.Math.Nat.{add-zero}
use Rattle.terms.specs.Counted.{one}
use Rattle.terms.specs.Limits.{OBJECTS}
use Rattle.terms.specs.Numbers.{ACCEPTED}
use Rattle.table.specs.declared.Table.{Table}
use Rattle.table.specs.Formed.{Formed}
use Rattle.step.specs.declared.Event.{Event}
use Rattle.step.specs.Step.{step}
use Rattle.laws.proofs.Counting.LinkCollect.{linked}
use Rattle.laws.specs.Counting.Linked.{Linked, is_sent, is_settled}
use Rattle.laws.proofs.Events.KeepsShape.{keeps_form}
use Rattle.laws.specs.LawE.{is_send_of, is_settle_of}
use Rattle.laws.specs.Sequence.{Accepted, along}

-- a test that counts for nothing failed
one_none : (b : Bool) → one b ≡ 0 → b ≡ false
one_none true e = absurd (omega arith)
one_none false e = refl

-- P n t: so it stands at table t after n SETTLEs of o
module _ {o : ℕ} (object : o < OBJECTS) {P : ℕ → Table → Type 0}
    (carries : (n : ℕ) (t : Table) (e : Event) → Formed t → (step t e).answer ≡ ACCEPTED → (l : Linked t e (step t e).table o)
    → is_sent l.change.act ≡ false → P n t → P (n + one (is_settled l.change.act)) (step t e).table) where
  pub carried : {t u : Table} {es : List Event} → Formed t → Accepted t es u → along (is_send_of o) t es ≡ 0
      → (n : ℕ) → P n t → P (n + along (is_settle_of o) t es) u
  unfolding along
  carried formed Accepted.stay unsent n holds = rw add-zero holds
  carried formed (Accepted.then {t} {u} {e} {es} accepted rest) unsent n holds =
      let l = linked t e formed accepted o object in
      let quiet = one_none (is_send_of o t e) (omega (arith, unsent)) in
      let next = ap (λ (b : Bool). n + one b) l.settled in
      let one_on = subst (λ k. P k (step t e).table) next (carries n t e formed accepted l (l.sent ∙ quiet) holds) in
      subst (λ k. P k u) (add_assoc n (one (is_settle_of o t e)) (along (is_settle_of o) (step t e).table es))
      (carried (keeps_form t e formed accepted) rest (omega (arith, unsent)) (n + one (is_settle_of o t e)) one_on)
