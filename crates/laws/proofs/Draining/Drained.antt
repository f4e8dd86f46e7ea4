-- Law E of one object, change by change: once nobody uses it and no reference to it is in the air, only a SETTLE lowers what is due, by one; what
-- is due is nought exactly where the directory is clear; and until then a decrement is in the air or a remote entry may go (document 01, law E;
-- PROOF-PLAN, "Law E"). Assumes nothing.
use Rattle.std.specs.Prelude.{◌≡◌, refl, ◌≢◌, ◌⊎◌, ◌↔◌, Bool, true, false, ℕ, ◌+◌, ◌<◌}
use Rattle.std.proofs.Common.{sym, ap, ◌∙◌, inl, inr, true≢false, arith, eq-eqb}
use Rattle.std.proofs.lemmas.Bool.{false≢true}
use Rattle.std.proofs.Math.Decide.{ℕ_discrete}
use Rattle.terms.specs.Counted.{how_many, one}
use Rattle.terms.specs.CountedLaws.{Some}
use Rattle.terms.proofs.CountedLaws.{how_many_none, sum_zero}
use Rattle.terms.specs.Limits.{NODES, OBJECTS, PLACES, owner}
use Rattle.entry.specs.declared.ReturnCount.{ReturnCount}
use Rattle.entry.specs.declared.Weight.{Weight}
use Rattle.entry.specs.declared.Entry.{Entry}
use Rattle.entry.specs.declared.Entry.TheVariants.{Absent, AtOwner, Elsewhere}
use Rattle.entry.specs.AtNode.{may_go, settled, set_unused}
use Rattle.entry.specs.Entry.{is_absent, is_present, is_remote, rc_of, weight_under}
use Rattle.entry.specs.Fits.{fits_entry}
use Rattle.entry.specs.FitsLaws.{away}
use Rattle.counting.specs.Adding.{sum_some}
use Rattle.counting.proofs.Kept.{measured}
use Rattle.counting.proofs.Leaf.{leaf}
use Rattle.table.specs.declared.Message.{Message}
use Rattle.table.specs.declared.Message.TheVariants.{Empty, Reference, Decrement}
use Rattle.table.specs.declared.Table.{Table}
use Rattle.table.specs.Shape.{fits_table}
use Rattle.table.specs.ShapeLaws.{shaped}
use Rattle.table.specs.Table.{entry_at, message_at, is_decrement_of, is_reference_of}
use Rattle.laws.specs.Counting.Change.{is_of, Act, other, same, sends, receives, settles, unused, drops, clears, Change}
use Rattle.laws.proofs.Counting.ClearLaws.{hangs, clear_means_nobody, nobody_means_clear}
use Rattle.laws.proofs.Counting.Counts.{foreign}
use Rattle.laws.specs.Counting.Lawful.{rules, share, Lawful}
use Rattle.laws.proofs.Counting.LawfulKept.{patch}
use Rattle.laws.specs.Counting.Linked.{is_sent, is_settled}
use Rattle.laws.proofs.Events.Presence.{settled_presence}
use Rattle.laws.specs.LawA.{air_under}
use Rattle.laws.specs.LawE.{Unused, due, Clear, InAir}

-- ---- single entries and messages

-- a message that isn't of the object is neither a reference nor a decrement of it
not_of : (o : ℕ) (x : Message) → is_of o x ≡ false → (is_reference_of o x ≡ false) × (is_decrement_of o x ≡ false)
not_of o Empty e = (refl, refl)
not_of o (Reference from to x) e = (e, refl)
not_of o (Decrement from to x m n) e = (refl, e)

-- and the other way
neither_of : (o : ℕ) (x : Message) → is_reference_of o x ≡ false → is_decrement_of o x ≡ false → is_of o x ≡ false
neither_of o Empty r d = refl
neither_of o (Reference from to x) r d = r
neither_of o (Decrement from to x m n) r d = d

-- settling makes no entry remote
settled_sort : (m : ReturnCount) (n : Weight) (e : Entry) → is_remote (settled m n e).entry ≡ is_remote e
unfolding settled
settled_sort m n Absent = refl
settled_sort m n (AtOwner d) = refl
settled_sort m n (Elsewhere e) = refl

-- nor does COLLECT
unused_sort : (e : Entry) → (is_remote (set_unused e) ≡ is_remote e) × (is_present (set_unused e) ≡ false)
unused_sort Absent = (refl, refl)
unused_sort (AtOwner d) = (refl, refl)
unused_sort (Elsewhere e) = (refl, refl)

-- a test that counts passes
one-true : (b : Bool) → 0 < one b → b ≡ true
one-true true some = refl
one-true false some = absurd (omega arith)

-- an entry that hangs under a node, without a count and not in use, may go
ready : (e : Entry) → Some NODES (λ q. 0 < weight_under q e) → rc_of e ≡ 0 → is_present e ≡ false → (is_remote e ≡ true) × (may_go e ≡ true)
unfolding may_go
ready Absent hung count idle = absurd (omega (arith, hung.2))
ready (AtOwner d) hung count idle = absurd (omega (arith, hung.2))
ready (Elsewhere e) hung count idle = (refl, rw (idle, count))

-- ---- single acts

-- an act that sends nothing, where no reference was in the place
record Draining (o : ℕ) (e : Entry) (x : Message) (e' : Entry) (y : Message) (settle : ℕ) : Type 0 where
  idle : is_present e ≡ false → is_present e' ≡ false
  quiet : is_reference_of o y ≡ false
  left : settle + (one (is_remote e') + one (is_decrement_of o y)) ≡ one (is_remote e) + one (is_decrement_of o x)

-- each such act lowers what is due by one if it settles, and else not
draining : {o p : ℕ} {e : Entry} {x : Message} {e' : Entry} {y : Message} (act : Act o p e x e' y) → is_sent act ≡ false → is_reference_of o x ≡ false
    → Draining o e x e' y (one (is_settled act))
draining {o} (other {x = x} {y = y} ex ey) still none = record {
  idle = λ e. e;
  quiet = (not_of o y ey).0;
  left = rw ((not_of o x ex).1, (not_of o y ey).1) (omega arith);
}
draining same still none = record { idle = λ e. e; quiet = none; left = omega arith }
draining (sends apart number ok) still none = absurd (true≢false still)
draining {o} (receives ok) still none = absurd (true≢false (sym (eq-eqb o o refl) ∙ none))
draining {o} (settles {e = e} {m = m} {n = n} ok) still none = record {
  idle = λ absent. settled_presence m n e ∙ absent;
  quiet = refl;
  left = rw (settled_sort m n e, eq-eqb o o refl) (omega arith);
}
draining (unused {e = e}) still none =
    let sort = unused_sort e in record { idle = λ absent. sort.1; quiet = none; left = rw sort.0 (omega arith) }
draining {o} (drops may) still none = record { idle = λ absent. refl; quiet = refl; left = rw (eq-eqb o o refl) }
draining (clears may) still none = record { idle = λ absent. refl; quiet = none; left = omega arith }

-- ---- changes

module _ {t u : Table} {o : ℕ} (change : Change t u o) (idle : Unused t o) (still : is_sent change.act ≡ false) where
  -- the act of the change
  drained : Draining o
      (entry_at t change.node o) (message_at t change.place) (entry_at u change.node o) (message_at u change.place)
      (one (is_settled change.act))
  drained = draining change.act still (idle.quiet change.place change.place_number)

  -- nobody uses the object after it
  pub unused_kept : Unused u o
  unused_kept = record {
    idle = λ p lp. elim (ℕ_discrete p change.node) [
      | yes e ↦ rw e (drained.idle (idle.idle change.node change.node_number))
      | no ne ↦ rw (change.entries p lp ne) (idle.idle p lp)
    ];
    quiet = λ s ls. elim (ℕ_discrete s change.place) [
      | yes e ↦ rw e drained.quiet
      | no ne ↦ rw (change.messages s ls ne) (idle.quiet s ls)
    ];
  }

  -- one less is due for a SETTLE, and no less for anything else
  pub due_kept : one (is_settled change.act) + due u o ≡ due t o
  due_kept = omega (
    arith,
    measured (rules o) (share t o) (share u o) (patch change) (λ e. one (is_remote e)) (λ x. one (is_decrement_of o x)),
    drained.left,
  )

-- ---- tables

module _ (t : Table) (o : ℕ) (shape : fits_table t ≡ true) (lo : o < OBJECTS) (lawful : Lawful t o) (idle : Unused t o) where
  -- no decrement in the air: no message of the object
  no_message : how_many PLACES (λ s. is_decrement_of o (message_at t s)) ≡ 0 → (s : ℕ) → s < PLACES → is_of o (message_at t s) ≡ false
  no_message none s ls = neither_of o (message_at t s) (idle.quiet s ls) (how_many_none PLACES (λ x. is_decrement_of o (message_at t x)) none s ls)

  -- nothing is due exactly where the directory is clear
  pub due_clear : (due t o ≡ 0) ↔ Clear t o
  due_clear = (
    λ none. nobody_means_clear t o shape lo lawful
        (how_many_none NODES (λ p. is_remote (entry_at t p o)) (omega arith))
        (no_message (omega arith)),
    λ clear. let nobody = clear_means_nobody t o shape lo lawful clear in omega (
      arith,
      sum_zero NODES (λ p. one (is_remote (entry_at t p o))) (λ p lp. ap one (not_remote p lp (nobody.entries p lp))),
      sum_zero PLACES (λ s. one (is_decrement_of o (message_at t s))) (λ s ls. ap one (not_of o (message_at t s) (nobody.messages s ls)).1),
    ),
  )
    where
      not_remote : (p : ℕ) → p < NODES → (p ≢ owner o → is_absent (entry_at t p o) ≡ true) → is_remote (entry_at t p o) ≡ false
      not_remote p lp absent = go (entry_at t p o) ((shaped t shape).entries p o lp lo) absent
        where
          go : (e : Entry) → fits_entry p o e ≡ true → (p ≢ owner o → is_absent e ≡ true) → is_remote e ≡ false
          go Absent fits absent = refl
          go (AtOwner d) fits absent = refl
          go (Elsewhere e) fits absent = absurd (false≢true (absent (away p o e fits).elsewhere))

  -- while something is due, a decrement is in the air or a remote entry may go
  pub due_onward : 0 < due t o → InAir t o ⊎ Some NODES (λ p. (is_remote (entry_at t p o) ≡ true) × (may_go (entry_at t p o) ≡ true))
  due_onward some = elim (ℕ_discrete (how_many PLACES (λ s. is_decrement_of o (message_at t s))) 0) [
    | yes none ↦
        let remote = sum_some NODES (λ p. one (is_remote (entry_at t p o))) (omega arith) in
        let p = remote.0 in
        let hung = hangs o p (entry_at t p o) ((shaped t shape).entries p o remote.1 lo) (one-true (is_remote (entry_at t p o)) remote.2) in
        let unheard : (s x : ℕ) → s < PLACES → x < NODES → air_under x o (message_at t s) ≡ 0 =
        λ s x ls lx. (foreign o (message_at t s) (no_message none s ls)).air x in
        let found = leaf (rules o) (share t o) lawful unheard (p, remote.1, hung) in
        inr (found.0, found.1, ready (entry_at t found.0 o) found.2.0 found.2.1 (idle.idle found.0 found.1))
    | no some ↦
        let held = sum_some PLACES (λ s. one (is_decrement_of o (message_at t s))) (omega arith) in
        inl (record { place = held.0; number = held.1; held = one-true (is_decrement_of o (message_at t held.0)) held.2 })
  ]
