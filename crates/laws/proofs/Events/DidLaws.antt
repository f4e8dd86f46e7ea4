-- Every accepted event did what Did.antt says of its kind: `did`. Assumes nothing.
use Rattle.std.specs.Prelude.{◌≡◌, Bool, ℕ, ◌+◌, ltb, eqb, if◌then◌else◌}
use Rattle.std.proofs.Math.Path.{refl}
use Rattle.std.proofs.Common.{sym, ap, subst, true≢false, arith}
use Rattle.std.proofs.Math.Bool.{true, false, not}
use Rattle.std.proofs.lemmas.Bool.{false≢true}
use borrow.Author.Tests.{ltb-true, eqb-true, eqb-false, not-false}
use Rattle.terms.specs.Choose.{◌or◌}
use Rattle.terms.proofs.ChooseLaws.{and_passes}
use Rattle.terms.specs.Limits.{OWNED, PLACES}
use Rattle.terms.specs.Numbers.{ACCEPTED}
use Rattle.entry.specs.declared.Entry.{Entry}
use Rattle.entry.specs.declared.Entry.TheVariants.{Absent, AtOwner, Elsewhere}
use Rattle.entry.specs.AtNode.{may_go, received, refuses, sent}
use Rattle.entry.specs.Entry.{is_absent}
use Rattle.heap.specs.Heap.{free_own, is_live, is_none, root_at}
use Rattle.heap.specs.Walk.{owned_by}
use Rattle.table.specs.declared.Message.{Message}
use Rattle.table.specs.declared.Message.TheVariants.{Empty, Reference, Decrement}
use Rattle.table.specs.declared.Table.{Table}
use Rattle.table.specs.Table.{empty_place, entry_at, message_at}
use Rattle.step.specs.declared.Event.{Event}
use Rattle.step.specs.declared.Kind.{Kind}
use Rattle.step.specs.declared.Kind.TheVariants.{New, Move, Clear, Load, Store, Send, Receive, Settle, Collect, Drop, Unknown}
use Rattle.step.specs.declared.Ranges.{Ranges}
use Rattle.step.specs.Clear.{clear}
use Rattle.step.specs.Collect.{collect_holding, collect_keeping}
use Rattle.step.specs.Drop.{drop_of}
use Rattle.step.specs.Event.{NEW, MOVE, CLEAR, LOAD, STORE, SEND, RECEIVE, SETTLE, COLLECT, DROP, fits_event, fits_ranges, kind_of, ranges_of}
use Rattle.step.specs.Load.{load, out_of_reach}
use Rattle.step.specs.Move.{move}
use Rattle.step.specs.New.{chosen, new}
use Rattle.step.specs.Receive.{receive_of}
use Rattle.step.specs.Send.{is_dead_own, send}
use Rattle.step.specs.Settle.{settle_of}
use Rattle.step.specs.Step.{rule_for, step}
use Rattle.step.specs.Store.{store}
use Rattle.laws.proofs.Events.Answered.{Done, NoneApplies, done, met, numbered}
use Rattle.laws.specs.Events.Did.{Did, DropFree, InReach}
use Rattle.laws.specs.Events.DidLaws.{Below}

-- ---- kinds and their numbers

-- n is the number of the kind; of an unknown kind nothing is said
abbrev pub Numbers : ℕ → Kind → Type 0
Numbers n New = n ≡ NEW
Numbers n Move = n ≡ MOVE
Numbers n Clear = n ≡ CLEAR
Numbers n Load = n ≡ LOAD
Numbers n Store = n ≡ STORE
Numbers n Send = n ≡ SEND
Numbers n Receive = n ≡ RECEIVE
Numbers n Settle = n ≡ SETTLE
Numbers n Collect = n ≡ COLLECT
Numbers n Drop = n ≡ DROP
Numbers n Unknown = Unit {0}

-- `kind_of` goes by these numbers
pub kind_numbers : (n : ℕ) → Numbers n (kind_of n)
unfolding kind_of
kind_numbers n =
    choose New NEW _ (λ e. e) (choose Move MOVE _ (λ e. e) (choose Clear CLEAR _ (λ e. e) (choose Load LOAD _ (λ e. e)
    (choose Store STORE _ (λ e. e) (choose Send SEND _ (λ e. e) (choose Receive RECEIVE _ (λ e. e) (choose Settle SETTLE _ (λ e. e)
    (choose Collect COLLECT _ (λ e. e) (choose Drop DROP _ (λ e. e) tt)))))))))
  where
    choose : (x : Kind) (number : ℕ) (k : Kind) → (n ≡ number → Numbers n x) → Numbers n k → Numbers n (if eqb n number then x else k)
    choose x number k first rest = go (eqb n number) refl
      where
        go : (b : Bool) → eqb n number ≡ b → Numbers n (if b then x else k)
        go true e = first (eqb-true n number e)
        go false e = rest

-- so it is where the operands fit
pub below : (r : Ranges) (e : Event) → fits_ranges r e ≡ true → Below r e
below r e fits =
    let one = (and_passes (ltb e.a r.a) _).0 fits in
    let two = (and_passes (ltb e.b r.b) _).0 one.1 in
    let three = (and_passes (ltb e.c r.c) _).0 two.1 in
    record {
      a = ltb-true e.a r.a one.0;
      b = ltb-true e.b r.b two.0;
      c = ltb-true e.c r.c three.0;
      d = ltb-true e.d r.d three.1;
    }

-- ---- by cases of the kind

-- "or" fails where both fail
or_fails : (a b : Bool) → (a or b) ≡ false → (a ≡ false) × (b ≡ false)
or_fails true b e = absurd (true≢false e)
or_fails false b e = (refl, e)

-- the entry is absent where the test says so
pub absent_is : (e : Entry) → is_absent e ≡ true → e ≡ Absent
absent_is Absent e = refl
absent_is (AtOwner d) e = absurd (false≢true e)
absent_is (Elsewhere x) e = absurd (false≢true e)

module _ (t : Table) (e : Event) where
  -- what is known of an accepted event of kind k
  record Of (k : Kind) : Type 0 where
    kind : Numbers e.kind k
    operands : Below (ranges_of k) e
    done : Done t e (rule_for k t e)

  -- the table after it is that of the effect
  becomes : {u : Table} → (step t e).table ≡ u → Did t e u → Did t e (step t e).table
  becomes q d = subst (λ u. Did t e u) (sym q) d

  -- NEW: its three refusals
  did_new : Of New → Did t e (step t e).table
  unfolding rule_for new
  did_new of =
      let none = of.done.free in
      becomes of.done.after (Did.new of.kind (record {
        node = of.operands.a;
        root = of.operands.b;
        empty = not-false (is_none (root_at t.heap e.a e.b)) none.0;
        room = ltb-true (free_own t.heap e.a) OWNED (not-false _ none.1.0);
        unlisted = absent_is (entry_at t e.a (chosen t e.a)) (not-false _ none.1.1.0);
      }))

  -- MOVE and CLEAR have none of their own
  did_move : Of Move → Did t e (step t e).table
  unfolding rule_for move
  did_move of = becomes of.done.after (Did.move of.kind of.operands.a of.operands.b of.operands.c)

  did_clear : Of Clear → Did t e (step t e).table
  unfolding rule_for clear
  did_clear of = becomes of.done.after (Did.clear of.kind of.operands.a of.operands.b)

  -- none of the refusals that LOAD and STORE share applied
  in_reach : (p o : ℕ) → NoneApplies (out_of_reach t p o) → InReach t p o
  in_reach p o none = record { named = none.0; own = not-false (owned_by p o) none.1.0; live = not-false (is_live t.heap o) none.1.1.0 }

  -- LOAD of a field
  did_load : Of Load → Did t e (step t e).table
  unfolding rule_for load
  did_load of =
      let range = of.operands in
      let reach = in_reach e.a (root_at t.heap e.a e.c) of.done.free in
      becomes of.done.after (Did.load of.kind range.a range.b range.c range.d reach)

  -- STORE into a field
  did_store : Of Store → Did t e (step t e).table
  unfolding rule_for store
  did_store of =
      let range = of.operands in
      let reach = in_reach e.a (root_at t.heap e.a e.b) of.done.free in
      becomes of.done.after (Did.store of.kind range.a range.b range.c range.d reach)

  -- SEND: its four refusals
  did_send : Of Send → Did t e (step t e).table
  unfolding rule_for send
  did_send of =
      let none = of.done.free in
      let o = root_at t.heap e.a e.b in
      let torn = or_fails (is_dead_own t e.a o) (refuses (sent e.a e.c o (entry_at t e.a o))) none.1.1.0 in
      becomes of.done.after (Did.send of.kind (record {
        node = of.operands.a;
        root = of.operands.b;
        receiver = of.operands.c;
        away = eqb-false e.a e.c none.0;
        named = none.1.0;
        alive = torn.0;
        takes = torn.1;
        room = ltb-true (empty_place t) PLACES (not-false _ none.1.1.1.0);
      }))

  -- RECEIVE and SETTLE ask what stands in place s
  did_receive : Of Receive → Did t e (step t e).table
  unfolding rule_for receive_of
  did_receive of = go (message_at t e.a) refl of.done
    where
      go : (x : Message) → message_at t e.a ≡ x → Done t e (receive_of t e.a e.b x) → Did t e (step t e).table
      go Empty q done = absurd (true≢false done.free.0)
      go (Decrement from to o m n) q done = absurd (true≢false done.free.0)
      go (Reference from to o) q done =
          let torn = or_fails (is_dead_own t to o) (refuses (received from to o (entry_at t to o))) done.free.1.0 in
          becomes done.after (Did.receive of.kind (record {
            place = of.operands.a;
            root = of.operands.b;
            there = q;
            empty = not-false (is_none (root_at t.heap to e.b)) done.free.0;
            alive = torn.0;
            takes = torn.1;
          }))

  did_settle : Of Settle → Did t e (step t e).table
  unfolding rule_for settle_of
  did_settle of = go (message_at t e.a) refl of.done
    where
      go : (x : Message) → message_at t e.a ≡ x → Done t e (settle_of t e.a x) → Did t e (step t e).table
      go Empty q done = absurd (true≢false done.free.0)
      go (Reference from to o) q done = absurd (true≢false done.free.0)
      go (Decrement from to o m n) q done =
          becomes done.after (Did.settle of.kind (record { place = of.operands.a; there = q; takes = done.free.0 }))

  -- COLLECT: its one refusal
  did_collect : Of Collect → Did t e (step t e).table
  unfolding rule_for collect_keeping collect_holding
  did_collect of = becomes of.done.after (Did.collect of.kind (record { node = of.operands.a; whole = of.done.free.0 }))

  -- DROP asks what stands for o at p
  did_drop : Of Drop → Did t e (step t e).table
  unfolding rule_for drop_of
  did_drop of = go (entry_at t e.a e.b) refl of.done
    where
      free : (x : Entry) → entry_at t e.a e.b ≡ x → not (may_go x) ≡ false → DropFree t e.a e.b x
      free x q busy = record { node = of.operands.a; object = of.operands.b; there = q; idle = not-false (may_go x) busy }

      go : (x : Entry) → entry_at t e.a e.b ≡ x → Done t e (drop_of t e.a e.b x) → Did t e (step t e).table
      go Absent q done = absurd (true≢false done.free.0)
      go (AtOwner d) q done = becomes done.after (Did.drop_directory of.kind (free (AtOwner d) q done.free.0))
      go (Elsewhere x) q done =
          let room = ltb-true (empty_place t) PLACES (not-false _ done.free.1.0) in
          becomes done.after (Did.drop_remote of.kind (free (Elsewhere x) q done.free.0) room)

  -- whichever kind it is; none of its operands is in range where it is unknown
  did_kind : (k : Kind) → Of k → Did t e (step t e).table
  did_kind New of = did_new of
  did_kind Move of = did_move of
  did_kind Clear of = did_clear of
  did_kind Load of = did_load of
  did_kind Store of = did_store of
  did_kind Send of = did_send of
  did_kind Receive of = did_receive of
  did_kind Settle of = did_settle of
  did_kind Collect of = did_collect of
  did_kind Drop of = did_drop of
  did_kind Unknown of = absurd (omega (arith, of.operands.a))

  -- every refusal of every rule has a number
  rule_numbered : (k : Kind) → numbered (rule_for k t e).refusals ≡ true
  unfolding rule_for new move clear load store send receive_of settle_of collect_keeping collect_holding drop_of
  rule_numbered New = refl
  rule_numbered Move = refl
  rule_numbered Clear = refl
  rule_numbered Load = refl
  rule_numbered Store = refl
  rule_numbered Send = refl
  rule_numbered Receive = go (message_at t e.a)
    where
      go : (x : Message) → numbered (receive_of t e.a e.b x).refusals ≡ true
      go Empty = refl
      go (Reference from to o) = refl
      go (Decrement from to o m n) = refl
  rule_numbered Settle = go (message_at t e.a)
    where
      go : (x : Message) → numbered (settle_of t e.a x).refusals ≡ true
      go Empty = refl
      go (Reference from to o) = refl
      go (Decrement from to o m n) = refl
  rule_numbered Collect = refl
  rule_numbered Drop = go (entry_at t e.a e.b)
    where
      go : (x : Entry) → numbered (drop_of t e.a e.b x).refusals ≡ true
      go Absent = refl
      go (AtOwner d) = refl
      go (Elsewhere x) = refl
  rule_numbered Unknown = refl

  -- what the accepted event did
  pub did : (step t e).answer ≡ ACCEPTED → Did t e (step t e).table
  unfolding fits_event
  did accepted = did_kind (kind_of e.kind) (record {
    kind = kind_numbers e.kind;
    operands = below (ranges_of (kind_of e.kind)) e (met t e accepted).operands;
    done = done t e accepted (rule_numbered (kind_of e.kind));
  })

-- an accepted event adds 1 to the count
pub count_after : (t : Table) (e : Event) → (step t e).answer ≡ ACCEPTED → (step t e).table.count ≡ t.count + 1
count_after t e accepted = ap (λ (u : Table). u.count) (done t e accepted (rule_numbered t e (kind_of e.kind))).after
