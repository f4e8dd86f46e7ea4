-- The plans of SEND, RECEIVE, SETTLE and DROP are right for the table that the image is of (document 01, "Events"): plan and rule refuse for
-- the same and change the same. Assumes nothing.
use Rattle.std.specs.Prelude.{◌≡◌, Bool, false, ℕ, ◌+◌, ◌<◌, get_or, if◌then◌else◌}
use Rattle.std.proofs.Math.Path.{refl, ap, subst}
use Rattle.std.proofs.Common.{sym, ◌∙◌}
use Rattle.std.proofs.Math.Bool.{true, not}
use mathlib.Core.List.{List, [], ◌∷◌}
use native.Mathlib.Omega.{arith}
use Rattle.std.proofs.Math.Dec.{eqb}
use borrow.Author.Tests.{ltb-true, eq-eqb, ne_eqb, not-false}
use Rattle.terms.specs.Choose.{◌when◌, ◌and◌}
use Rattle.terms.specs.Limits.{NODES, OBJECTS, PLACES, ROOTS, owner}
use Rattle.terms.specs.Numbers.{SELF, EMPTY, TORN, FULL, ROOT, NOMSG, NOENTRY, BUSY}
use Rattle.entry.specs.declared.Entry.{Entry}
use Rattle.entry.specs.declared.Entry.TheVariants.{Absent, AtOwner, Elsewhere}
use Rattle.entry.specs.AtNode.{may_go, refuses, sent, received, settled}
use Rattle.entry.specs.Fits.{fits_entry}
use Rattle.entry.specs.FitsLaws.{away, home}
use Rattle.heap.specs.declared.Object.{Object}
use Rattle.heap.specs.declared.Roots.{Roots}
use Rattle.heap.specs.Heap.{is_none, root_at}
use Rattle.heap.specs.Walk.{owned_by}
use Rattle.table.specs.declared.Message.{Message}
use Rattle.table.specs.declared.Message.TheVariants as m
use Rattle.table.specs.declared.Table.{Table}
use Rattle.table.specs.ShapeLaws.{decrement_way, reference_way, root_object, shaped}
use Rattle.table.specs.Table.{empty_place, entry_at, is_empty, message_at}
use Rattle.image.specs.declared.Held.{Held}
use Rattle.image.specs.declared.Held.TheVariants as h
use Rattle.image.specs.Find.{entry_records, held_records}
use Rattle.image.specs.Spots.{message}
use Rattle.image.specs.Writer.{directory_record, remote_record, message_record}
use Rattle.laws.proofs.Events.EntryFits.{sent_fits, received_fits, settled_fits}
use Rattle.splice.specs.Changed.{entry_spot, entry_record, roots_with}
use Rattle.splice.proofs.Changed.{entry_within}
use Rattle.splice.specs.Events.{entry_to, message_to}
use Rattle.splice.proofs.KindLaws.{send_differs, received_differs, settle_differs, cleared_differs, dropped_differs}
use Rattle.splice.specs.Patched as patched
use Rattle.step.specs.Drop.{drop, drop_of, last_words}
use Rattle.step.specs.Outcome.{by}
use Rattle.step.specs.Receive.{receive, receive_of, receive_torn, reply}
use Rattle.step.specs.Send.{is_dead_own, is_full, send, send_torn}
use Rattle.step.specs.Settle.{settle, settle_of}
use Rattle.plan.specs.Change.{Change}
use Rattle.plan.specs.Matched.{lowest_same, counted, roots_made}
use Rattle.plan.specs.Plan.{at, entry_spot_in, message_spot, root_of, entry_of, message_of, is_dead_own_in, empty_place_in}
use Rattle.plan.specs.Plan.{send_plan, receive_plan, settle_plan, drop_plan}
use Rattle.plan.specs.Planned.{Planned, planned_by, planned_refused, Matches, none, same, made}
use Rattle.plan.specs.Told.{Told}

-- no entry, no record
nothing_held : (p o : ℕ) → entry_record p o Absent ≡ []
nothing_held p o = go (eqb p (owner o))
  where
    go : (b : Bool) → (if b then directory_record o Absent else remote_record p o Absent) ≡ []
    go true = refl
    go false = refl

-- the record of an entry that fits where it stands
entry_held : (p o : ℕ) (e : Entry) → fits_entry p o e ≡ true → entry_record p o e ≡ entry_records p o e
entry_held p o Absent fits = nothing_held p o
entry_held p o (AtOwner d) fits = rw (eq-eqb p (owner o) (home p o d fits).own)
entry_held p o (Elsewhere r) fits = rw (ne_eqb p (owner o) (away p o r fits).elsewhere)

module _ (l : List ℕ) (t : Table) (told : Told l t) where
  -- ---- what the image tells

  empty_place_lem : empty_place_in l ≡ empty_place t
  unfolding empty_place_in
  empty_place_lem = lowest_same 0 PLACES _ (λ s. is_empty (message_at t s)) (λ s lt. told.empty s (omega arith))

  dead_own : (p o : ℕ) → o < OBJECTS → is_dead_own_in l p o ≡ is_dead_own t p o
  unfolding is_dead_own_in
  dead_own p o lo = ap (λ (x : Object). owned_by p o and not x.live) (told.objects o lo)

  root_told : (p r : ℕ) → p < NODES → root_of l p r ≡ root_at t.heap p r
  root_told p r lp = ap (λ (x : Roots). get_or x.at r 0) (told.roots p lp)

  entry_fits : (p o : ℕ) → p < NODES → o < OBJECTS → fits_entry p o (entry_at t p o) ≡ true
  entry_fits p o lp lo = told.shape.entries p o lp lo

  -- ---- changes of bytes that are changes of records

  -- the event count, one more
  abbrev n : ℕ
  n = t.count + 1

  posted : (s : ℕ) (x : Message) (held : Held) → s < PLACES → message_record s x ≡ held_records s 0 held
      → Matches l (at (message_spot l s) s 0 held ∷ []) (message_to s x ∷ [])
  posted s x held ls is = made (message s) ls (told.begins (message s) ls) (told.ends (message s) ls) is none

  module _ (p o : ℕ) (lp : p < NODES) (lo : o < OBJECTS) {cs : List Change} {ps : List patched.Change} (rest : Matches l cs ps) where
    entered : (e : Entry) (held : Held) → entry_record p o e ≡ held_records p o held
        → Matches l (at (entry_spot_in l p o) p o held ∷ cs) (entry_to p o e ∷ ps)
    entered e held is =
        let in' = entry_within p o lp lo in
        made (entry_spot p o) in' (told.begins (entry_spot p o) in') (told.ends (entry_spot p o) in') is rest

    changed_entry : (e : Entry) → fits_entry p o e ≡ true → Matches l (at (entry_spot_in l p o) p o (h.Entry e) ∷ cs) (entry_to p o e ∷ ps)
    changed_entry e fits = entered e (h.Entry e) (entry_held p o e fits)

    gone_entry : Matches l (at (entry_spot_in l p o) p o h.Nothing ∷ cs) (entry_to p o Absent ∷ ps)
    gone_entry = entered Absent h.Nothing (nothing_held p o)

  -- ---- SEND

  -- of the object o in root r
  send_of : (p r q o : ℕ) → p < NODES → r < ROOTS → root_at t.heap p r ≡ o → Planned l t (by t (send t p r q)) (send_plan l p q o)
  unfolding send send_plan
  send_of p r q o lp lr is = rw is
      (planned_by l t ((SELF when eqb p q) ∷ (EMPTY when is_none o) ∷ []) _ _ (λ e. omega arith, (λ e. omega arith, tt)) (λ named.
      let held = root_object t (shaped t told.fits) p r lp lr (ap is_none is ∙ named.1.0) in
      let lo : o < OBJECTS = subst (λ (x : ℕ). x < OBJECTS) is held in
      rw (dead_own p o lo, empty_place_lem, told.entries p o lp lo)
      (planned_by l t ((TORN when send_torn t p q o) ∷ (FULL when is_full t) ∷ []) _ _ (λ e. omega arith, (λ e. omega arith, tt)) (λ pass.
      let s = empty_place t in
      let e = (sent p q o (entry_at t p o)).entry in
      let fits : fits_entry p o e ≡ true = sent_fits p o q (entry_at t p o) (entry_fits p o lp lo) in
      let ls : s < PLACES = ltb-true s PLACES (not-false _ pass.1.0) in
      record {
        answer = refl;
        deed = refl;
        changed = λ ok. (
          _,
          (
            counted l t told n (same (same (changed_entry p o lp lo (posted s (m.Reference p q o) _ ls refl) e fits))),
            send_differs t told.formed n told.shape p o lp lo q ls,
          ),
        );
      }))))

  pub send_planned : (p r q : ℕ) → p < NODES → r < ROOTS → q < NODES → Planned l t (by t (send t p r q)) (send_plan l p q (root_of l p r))
  send_planned p r q lp lr lq = send_of p r q (root_of l p r) lp lr (sym (root_told p r lp))

  -- ---- RECEIVE

  -- of the message x in place s
  receive_of_lem : (s r : ℕ) (x : Message) → s < PLACES → message_at t s ≡ x → Planned l t (by t (receive_of t s r x)) (receive_plan l s r x)
  unfolding receive_of receive_plan
  receive_of_lem s r m.Empty ls is = planned_refused l t NOMSG (λ e. omega arith)
  receive_of_lem s r (m.Decrement from to o k w) ls is = planned_refused l t NOMSG (λ e. omega arith)
  receive_of_lem s r (m.Reference from to o) ls is =
      let way = reference_way t (shaped t told.fits) s ls is in
      let lp = way.receiver in
      let lo = way.object in
      let e = (received from to o (entry_at t to o)).entry in
      let fits : fits_entry to o e ≡ true = received_fits to o from (entry_at t to o) way.sender way.away (entry_fits to o lp lo) in
      let there = posted s (reply from to o (entry_at t to o)) _ ls refl in
      let asked = (ROOT when not (is_none (root_at t.heap to r))) ∷ (TORN when receive_torn t from to o) ∷ [] in
      rw (told.roots to lp, dead_own to o lo, told.entries to o lp lo)
      (planned_by l t asked _ _ (λ e. omega arith, (λ e. omega arith, tt)) (λ pass. record {
        answer = refl;
        deed = refl;
        changed = λ ok. (
          _,
          (
            counted l t told n (same (roots_made l t told to lp (roots_with t to r o) (changed_entry to o lp lo there e fits))),
            received_differs t told.formed n told.shape to o lp lo s r from ls,
          ),
        );
      }))

  pub receive_planned : (s r : ℕ) → s < PLACES → r < ROOTS → Planned l t (by t (receive t s r)) (receive_plan l s r (message_of l s))
  receive_planned s r ls lr = rw (told.messages s ls) (receive_of_lem s r (message_at t s) ls refl)

  -- ---- SETTLE

  -- of the message x in place s
  settle_of_lem : (s : ℕ) (x : Message) → s < PLACES → message_at t s ≡ x → Planned l t (by t (settle_of t s x)) (settle_plan l s x)
  unfolding settle_of settle_plan
  settle_of_lem s m.Empty ls is = planned_refused l t NOMSG (λ e. omega arith)
  settle_of_lem s (m.Reference from to o) ls is = planned_refused l t NOMSG (λ e. omega arith)
  settle_of_lem s (m.Decrement from to o k w) ls is =
      let way = decrement_way t (shaped t told.fits) s ls is in
      let lp = way.receiver in
      let lo = way.object in
      let e = (settled k w (entry_at t to o)).entry in
      let fits : fits_entry to o e ≡ true = settled_fits to o k w (entry_at t to o) (entry_fits to o lp lo) in
      rw (told.entries to o lp lo)
      (planned_by l t ((TORN when refuses (settled k w (entry_at t to o))) ∷ []) _ _ (λ e. omega arith, tt) (λ pass. record {
        answer = refl;
        deed = refl;
        changed = λ ok. (
          _,
          (
            counted l t told n (same (same (changed_entry to o lp lo (posted s m.Empty h.Nothing ls refl) e fits))),
            settle_differs t told.formed n told.shape to o lp lo s k w ls,
          ),
        );
      }))

  pub settle_planned : (s : ℕ) → s < PLACES → Planned l t (by t (settle t s)) (settle_plan l s (message_of l s))
  settle_planned s ls = rw (told.messages s ls) (settle_of_lem s (message_at t s) ls refl)

  -- ---- DROP

  -- of whatever stands there
  drop_of_lem : (p o : ℕ) (e : Entry) → p < NODES → o < OBJECTS → Planned l t (by t (drop_of t p o e)) (drop_plan l p o e)
  unfolding drop_of drop_plan
  drop_of_lem p o Absent lp lo = planned_refused l t NOENTRY (λ e. omega arith)
  drop_of_lem p o (AtOwner d) lp lo =
      planned_by l t ((BUSY when not (may_go (AtOwner d))) ∷ []) _ _ (λ e. omega arith, tt) (λ pass. record {
        answer = refl;
        deed = refl;
        changed = λ ok. (
          _,
          (
            counted l t told n (same (same (gone_entry p o lp lo (same none)))),
            cleared_differs t told.formed n told.shape p o lp lo,
          ),
        );
      })
  drop_of_lem p o (Elsewhere e) lp lo = rw empty_place_lem
      (planned_by l t ((BUSY when not (may_go (Elsewhere e))) ∷ (FULL when is_full t) ∷ []) _ _ (λ e. omega arith, (λ e. omega arith, tt)) (λ pass.
      let s = empty_place t in
      let ls : s < PLACES = ltb-true s PLACES (not-false _ pass.1.0) in
      record {
        answer = refl;
        deed = refl;
        changed = λ ok. (
          _,
          (
            counted l t told n (same (same (gone_entry p o lp lo (posted s (last_words p o e) _ ls refl)))),
            dropped_differs t told.formed n told.shape p o lp lo e ls,
          ),
        );
      }))

  pub drop_planned : (p o : ℕ) → p < NODES → o < OBJECTS → Planned l t (by t (drop t p o)) (drop_plan l p o (entry_of l p o))
  drop_planned p o lp lo = rw (told.entries p o lp lo) (drop_of_lem p o (entry_at t p o) lp lo)
