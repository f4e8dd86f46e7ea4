-- One more is always possible: while something is due of an object that nobody uses, a decrement of it is in the air or a remote entry of it can be
-- dropped, refused only by FULL or ENDED; and a SETTLE of it is refused only by ENDED (document 01, law E). Assumes nothing.
use Rattle.std.specs.Prelude.{◌≡◌, Bool, List, [], ◌∷◌, ℕ, ◌<◌, ltb, if◌then◌else◌}
use Rattle.std.proofs.Math.Path.{refl}
use Rattle.std.proofs.Common.{ap, ◌∙◌, inl, inr, ⊎_elim}
use Rattle.std.proofs.Math.Bool.{true, false, not}
use Rattle.std.proofs.lemmas.Bool.{false≢true}
use borrow.Author.Tests.{eqb-true, leb-true, lt-ltb}
use Rattle.terms.specs.Choose.{Refusal, ◌when◌, ◌or◌}
use Rattle.terms.specs.Counted.{holds}
use Rattle.terms.specs.Limits.{NODES, OBJECTS, PLACES, EVENTS}
use Rattle.terms.specs.Numbers.{SHAPE, EVENT, ENDED, BUSY, TORN, FULL}
use Rattle.entry.specs.declared.ReturnCount.{ReturnCount}
use Rattle.entry.specs.declared.Weight.{Weight}
use Rattle.entry.specs.declared.Entry.{Entry}
use Rattle.entry.specs.declared.Entry.TheVariants.{Absent, AtOwner, Elsewhere}
use Rattle.entry.specs.AtNode.{may_go, refuses, settled}
use Rattle.entry.specs.Entry.{is_remote}
use Rattle.table.specs.declared.Message.{Message}
use Rattle.table.specs.declared.Message.TheVariants.{Empty, Reference, Decrement}
use Rattle.table.specs.declared.Table.{Table}
use Rattle.table.specs.Shape.{fits_table}
use Rattle.table.specs.ShapeLaws.{shaped}
use Rattle.table.specs.Table.{entry_at, message_at, is_decrement_of}
use Rattle.step.specs.declared.Event.{Event}
use Rattle.step.specs.Drop.{drop_of}
use Rattle.step.specs.Event.{DROP, SETTLE, event, fits_event, kind_of}
use Rattle.step.specs.Send.{is_full}
use Rattle.step.specs.Settle.{settle_of}
use Rattle.step.specs.Step.{rule_for, rule_of}
use Rattle.laws.proofs.Counting.CountsKept.{Counted, counted_lawful, counted_within}
use Rattle.laws.proofs.Counting.InRange.{settles_at_most}
use Rattle.laws.proofs.Draining.Drained.{due_onward}
use Rattle.laws.specs.LawE.{Droppable, Onward, RefusedOnlyBy, Unused, due, only_these}

-- ---- lists of refusals

module _ (ns : List ℕ) (n : ℕ) (b : Bool) (rs : List Refusal) (rest : only_these ns rs ≡ true) where
  -- a refusal of one of these numbers may apply
  allowed : holds ns n ≡ true → only_these ns ((n when b) ∷ rs) ≡ true
  unfolding only_these
  allowed among = rw (among, rest) (go b)
    where
      go : (b : Bool) → (if not b or true then true else false) ≡ true
      go true = refl
      go false = refl

  -- any other may not
  left_out : b ≡ false → only_these ns ((n when b) ∷ rs) ≡ true
  unfolding only_these
  left_out not_it = rw (not_it, rest)

-- of what any event may be refused for, an event in range meets ENDED alone
module _ (ns : List ℕ) (t : Table) (e : Event) (shape : fits_table t ≡ true) (fits : fits_event e ≡ true) where
  common_ended : holds ns ENDED ≡ true → only_these ns (rule_of t e).refusals ≡ true → RefusedOnlyBy ns t e
  common_ended among rest =
      left_out ns SHAPE (not (fits_table t)) _
      (left_out ns EVENT (not (fits_event e)) _
      (allowed ns ENDED (not (ltb t.count EVENTS)) (rule_of t e).refusals rest among)
      (ap not fits))
      (ap not shape)

-- ---- the two events

-- a remote entry that may go: only a place for its decrement may be wanting
drop_refusals : (t : Table) (p o : ℕ) (e : Entry) → is_remote e ≡ true → may_go e ≡ true
    → only_these (FULL ∷ ENDED ∷ []) (drop_of t p o e).refusals ≡ true
unfolding drop_of only_these holds
drop_refusals t p o Absent remote may = absurd (false≢true remote)
drop_refusals t p o (AtOwner d) remote may = absurd (false≢true remote)
drop_refusals t p o (Elsewhere e) remote may =
    let full = FULL when is_full t in
    left_out (FULL ∷ ENDED ∷ []) BUSY (not (may_go (Elsewhere e))) (full ∷ []) (allowed (FULL ∷ ENDED ∷ []) FULL (is_full t) [] refl refl) (ap not may)

-- a decrement of the object that its receiver's entry can take: nothing
settle_refusals : (t : Table) (s o : ℕ) (x : Message) → is_decrement_of o x ≡ true
    → ((q p : ℕ) (m : ReturnCount) (w : Weight) → x ≡ Decrement q p o m w → refuses (settled m w (entry_at t p o)) ≡ false)
    → only_these (ENDED ∷ []) (settle_of t s x).refusals ≡ true
unfolding settle_of only_these
settle_refusals t s o Empty mine takes = absurd (false≢true mine)
settle_refusals t s o (Reference from to x) mine takes = absurd (false≢true mine)
settle_refusals t s o (Decrement from to x m n) mine takes =
    let same : x ≡ o = eqb-true x o mine in
    let free = takes from to m n (ap (λ (y : ℕ). Decrement from to y m n) same) in
    left_out (ENDED ∷ []) TORN (refuses (settled m n (entry_at t to x))) [] refl (ap (λ (y : ℕ). refuses (settled m n (entry_at t to y))) same ∙ free)

module _ (t : Table) (o : ℕ) (shape : fits_table t ≡ true) (lo : o < OBJECTS) where
  -- DROP of a remote entry that may go
  drop_free : (p : ℕ) → p < NODES → is_remote (entry_at t p o) ≡ true → may_go (entry_at t p o) ≡ true
      → RefusedOnlyBy (FULL ∷ ENDED ∷ []) t (event DROP p o 0 0)
  unfolding fits_event kind_of rule_for holds
  drop_free p lp remote may =
      common_ended (FULL ∷ ENDED ∷ []) t (event DROP p o 0 0) shape (rw (lt-ltb p NODES lp, lt-ltb o OBJECTS lo)) refl
      (drop_refusals t p o (entry_at t p o) remote may)

  -- so it can be dropped
  droppable : (p : ℕ) → p < NODES → is_remote (entry_at t p o) ≡ true → may_go (entry_at t p o) ≡ true → Droppable t o
  droppable p lp remote may = record { node = p; number = lp; remote = remote; free = drop_free p lp remote may }

  module _ (counted : Counted t) where
    -- SETTLE of a decrement of the object
    settle_free : (s : ℕ) → s < PLACES → is_decrement_of o (message_at t s) ≡ true → RefusedOnlyBy (ENDED ∷ []) t (event SETTLE s 0 0 0)
    unfolding fits_event kind_of rule_for holds
    settle_free s ls held =
        let few = leb-true t.count EVENTS (shaped t shape).count in
        common_ended (ENDED ∷ []) t (event SETTLE s 0 0 0) shape (rw (lt-ltb s PLACES ls)) refl
        (settle_refusals t s o (message_at t s) held (λ q p m w here.
        settles_at_most t o shape lo (counted_lawful t shape counted o lo) t.count few (counted_within t shape counted o lo) s q p m w ls here))

    -- while something is due
    pub onward : Unused t o → 0 < due t o → Onward t o
    onward idle some = record {
      one_more = ⊎_elim inl (λ leaf. inr (droppable leaf.0 leaf.1 leaf.2.0 leaf.2.1))
          (due_onward t o shape lo (counted_lawful t shape counted o lo) idle some);
      settles = settle_free;
    }
