-- What the acts on an entry do to its Presence (document 01, SEND, RECEIVE, SETTLE): none of them takes it away, a receipt elsewhere than at the
-- owner gives it, and no act but the owner's first SEND makes a directory. Assumes nothing.
use Rattle.std.specs.Prelude.{◌≡◌, refl, ◌≢◌, Bool, true, false, not, ℕ, leb, ltb, eqb, if◌then◌else◌}
use Rattle.std.proofs.Common.{◌∙◌, true≢false, ne_eqb}
use Rattle.std.proofs.lemmas.Bool.{false≢true}
use Rattle.terms.specs.Choose.{◌and◌}
use Rattle.terms.proofs.ChooseLaws.{either_way}
use Rattle.terms.specs.Limits.{MOST, owner}
use Rattle.terms.specs.Numbers.{ACCEPTED}
use Rattle.entry.specs.declared.Entry.{Entry}
use Rattle.entry.specs.declared.Entry.TheVariants.{Absent, AtOwner, Elsewhere}
use Rattle.entry.specs.declared.Remote.{Remote}
use Rattle.entry.specs.Acts.{RemoteAct}
use Rattle.entry.specs.declared.ReturnCount.{ReturnCount}
use Rattle.entry.specs.declared.Weight.{Weight}
use Rattle.entry.specs.Acts.{remote_received_again, remote_sent, remote_sent_home, remote_settled, stays}
use Rattle.entry.specs.AtNode.{holder_sent, may_go, received, refuses, sent, settled, of_remote, torn}
use Rattle.entry.specs.Entry.{both, is_directory, is_present, more}
use Rattle.entry.specs.Fits.{fits_returns}

-- an act leaves the entry with this Presence
abbrev Leaves : Bool → RemoteAct → Type 0
Leaves v x = x.entry.presence ≡ v

-- an act that is not refused leaves the entry in use
abbrev Gives : RemoteAct → Type 0
Gives x = not (eqb x.refusal ACCEPTED) ≡ false → x.entry.presence ≡ true

-- ---- SEND

-- sent on or sent home, Presence stays
remote_sent_lem : (e : Remote) → (remote_sent e).entry.presence ≡ e.presence
unfolding remote_sent
remote_sent_lem e = either_way (Leaves e.presence) (ltb e.rc MOST) (λ _. refl) refl

-- the same of an entry that is sent home
remote_home : (e : Remote) → (remote_sent_home e).entry.presence ≡ e.presence
unfolding remote_sent_home
remote_home e = either_way (Leaves e.presence) (stays fits_returns e.msg_ctr (more e.msg_ctr)) (λ _. refl) refl

-- an entry in use stays in use
pub sent_present : (p q o : ℕ) (e : Entry) → is_present e ≡ true → is_present (sent p q o e).entry ≡ true
unfolding sent holder_sent
sent_present p q o Absent h = absurd (false≢true h)
sent_present p q o (AtOwner d) h = absurd (false≢true h)
sent_present p q o (Elsewhere e) h = go e.presence (eqb q (owner o)) h
  where
    go : (b home : Bool) → b ≡ true
        → is_present (if b then (if home then of_remote (remote_sent_home e) else of_remote (remote_sent e)) else torn (Elsewhere e)).entry ≡ true
    go true true _ = remote_home e ∙ h
    go true false _ = remote_sent_lem e ∙ h
    go false home b = absurd (false≢true b)

-- ---- RECEIVE

-- an entry in use stays in use
pub received_keeps : (q p o : ℕ) (e : Entry) → is_present e ≡ true → is_present (received q p o e).entry ≡ true
unfolding received remote_received_again
received_keeps q p o Absent h = absurd (false≢true h)
received_keeps q p o (AtOwner d) h = absurd (false≢true h)
received_keeps q p o (Elsewhere e) h =
    either_way (Leaves true) (not (eqb e.parent q)) (λ _. refl) (either_way (Leaves true) (ltb e.ref_weight.0 MOST) (λ _. refl) h)

-- a receipt that is not refused leaves an entry in use, except at the owner
pub received_present : (q p o : ℕ) (e : Entry) → p ≢ owner o → is_directory e ≡ false → refuses (received q p o e) ≡ false
    → is_present (received q p o e).entry ≡ true
unfolding received remote_received_again
received_present q p o Absent away none takes = rw (ne_eqb p (owner o) away)
received_present q p o (AtOwner d) away none takes = absurd (true≢false none)
received_present q p o (Elsewhere e) away none takes =
    either_way Gives (not (eqb e.parent q)) (λ _ a. refl)
    (either_way Gives (ltb e.ref_weight.0 MOST) (λ _ a. refl) (λ a. absurd (true≢false a))) takes

-- ---- SETTLE

-- a settled decrement leaves Presence as it was
pub settled_presence : (m : ReturnCount) (n : Weight) (e : Entry) → is_present (settled m n e).entry ≡ is_present e
unfolding settled remote_settled
settled_presence m n Absent = refl
settled_presence m n (AtOwner d) = refl
settled_presence m n (Elsewhere e) =
    let c = e.msg_ctr in
    either_way (Leaves e.presence) (leb n.0 e.rc and fits_returns m and stays fits_returns c (both c m)) (λ _. refl) refl

-- so an entry in use stays in use
pub settled_present : (m : ReturnCount) (n : Weight) (e : Entry) → is_present e ≡ true → is_present (settled m n e).entry ≡ true
settled_present m n e h = settled_presence m n e ∙ h

-- and makes no directory
pub settled_directory : (m : ReturnCount) (n : Weight) (e : Entry) → is_directory (settled m n e).entry ≡ true → is_directory e ≡ true
unfolding settled
settled_directory m n Absent h = h
settled_directory m n (AtOwner d) h = h
settled_directory m n (Elsewhere e) h = h

-- ---- DROP

-- what may go is not in use
pub may_go_idle : (e : Entry) → may_go e ≡ true → is_present e ≡ true → ⊥
unfolding may_go
may_go_idle Absent m h = false≢true m
may_go_idle (AtOwner d) m h = false≢true h
may_go_idle (Elsewhere e) m h = false≢true (rw h at m)
