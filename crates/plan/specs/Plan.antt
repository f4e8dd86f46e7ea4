-- What an event comes to on an image, asked where it lies (document 01, "Events" and "Saved image"): the plan of each event but COLLECT, in the
-- words of its rule with each thing asked of the bytes. Definitions only; assumes nothing.
use Rattle.std.specs.Prelude.{Bool, not, List, [], ◌∷◌, ℕ, ◌+◌, ◌*◌, eqb, ltb, get_or}
use Rattle.terms.specs.Choose.{Refusal, ◌when◌, ◌and◌, ◌or◌, answered}
use Rattle.terms.specs.Counted.{lowest}
use Rattle.terms.specs.Limits.{NONE, OWNED, PLACES}
use Rattle.terms.specs.Numbers.{ACCEPTED, EVENT, ROOT, NOROOM, TORN, EMPTY, AWAY, SELF, FULL, NOMSG, NOENTRY, BUSY}
use Rattle.entry.specs.declared.Entry.{Entry}
use Rattle.entry.specs.declared.Entry.TheVariants.{Absent, AtOwner, Elsewhere}
use Rattle.entry.specs.Entry.{is_absent}
use Rattle.entry.specs.AtNode.{may_go, refuses, sent, received, settled}
use Rattle.heap.specs.declared.Object.{Object}
use Rattle.heap.specs.declared.Roots.{Roots}
use Rattle.heap.specs.Heap.{born, is_none, with_field_in, with_root_in}
use Rattle.heap.specs.Walk.{owned_by}
use Rattle.table.specs.declared.Message.{Message}
use Rattle.table.specs.declared.Message.TheVariants as m
use Rattle.image.specs.declared.Found.{Found}
use Rattle.image.specs.declared.Held.{Held}
use Rattle.image.specs.declared.Held.TheVariants as h
use Rattle.image.specs.Find.{of_object, of_roots, found_from, object_in, roots_in, entry_in, message_in}
use Rattle.image.specs.Spots.{object, roots, message, spot_position}
use Rattle.splice.specs.Changed.{entry_spot}
use Rattle.step.specs.Deed.{Refused, Arranged, Born, Sent, Settled, Dropped, Cleared}
use Rattle.step.specs.declared.Event.{Event}
use Rattle.step.specs.declared.Kind.{Kind}
use Rattle.step.specs.declared.Kind.TheVariants as k
use Rattle.step.specs.Drop.{last_words}
use Rattle.step.specs.Event.{fits_event, kind_of}
use Rattle.step.specs.Receive.{receipt, reply}
use Rattle.plan.specs.Change.{Change, Same, To, Plan}

-- ---- what the image tells

-- what stands for an object, the roots of a node, an entry, a place in the air
abbrev pub object_spot : List ℕ → ℕ → Found
object_spot l o = found_from 0 (spot_position (object o)) l

abbrev pub roots_spot : List ℕ → ℕ → Found
roots_spot l p = found_from 0 (spot_position (roots p)) l

abbrev pub entry_spot_in : List ℕ → ℕ → ℕ → Found
entry_spot_in l p o = found_from 0 (spot_position (entry_spot p o)) l

abbrev pub message_spot : List ℕ → ℕ → Found
message_spot l s = found_from 0 (spot_position (message s)) l

-- and what it says
abbrev pub object_of : List ℕ → ℕ → Object
object_of l o = object_in (object_spot l o).held

abbrev pub roots_of : List ℕ → ℕ → Roots
roots_of l p = roots_in (roots_spot l p).held

abbrev pub root_of : List ℕ → ℕ → ℕ → ℕ
root_of l p r = get_or (roots_of l p).at r 0

abbrev pub entry_of : List ℕ → ℕ → ℕ → Entry
entry_of l p o = entry_in (entry_spot_in l p o).held

abbrev pub message_of : List ℕ → ℕ → Message
message_of l s = message_in (message_spot l s).held

-- an object of p that isn't live
unfoldable pub is_dead_own_in : List ℕ → ℕ → ℕ → Bool
is_dead_own_in l p o = owned_by p o and not (object_of l o).live

-- the lowest object of p that isn't live, counted from 0 among its own
unfoldable pub free_own_in : List ℕ → ℕ → ℕ
free_own_in l p = lowest OWNED (λ k. not (object_of l (OWNED * p + k)).live)

-- the lowest place in the air without a message
abbrev is_empty_in : List ℕ → ℕ → Bool
is_empty_in l s = eqb (message_spot l s).at (message_spot l s).after

unfoldable pub empty_place_in : List ℕ → ℕ
empty_place_in l = lowest PLACES (is_empty_in l)

-- ---- plans

abbrev pub refused_plan : ℕ → Plan
refused_plan number = record { answer = number; deed = Refused; object = Same; roots = Same; entry = Same; message = Same }

-- another record where this one was found
abbrev pub at : Found → ℕ → ℕ → Held → Change
at found a b held = To found.at found.after a b held

-- roots of p changed, as MOVE, CLEAR and LOAD do
unfoldable pub root_plan : List ℕ → ℕ → ℕ → ℕ → Plan
root_plan l p r name = record {
  answer = ACCEPTED;
  deed = Arranged;
  object = Same;
  roots = at (roots_spot l p) p 0 (of_roots (with_root_in (roots_of l p) r name));
  entry = Same;
  message = Same;
}

-- NEW P r
unfoldable pub new_plan : List ℕ → ℕ → ℕ → ℕ → Plan
new_plan l p r o =
    answered refused_plan
    (
    (ROOT when not (is_none (root_of l p r)))
    ∷ (NOROOM when not (ltb (free_own_in l p) OWNED))
    ∷ (TORN when not (is_absent (entry_of l p o)))
    ∷ []
    )
    (record {
      answer = ACCEPTED;
      deed = Born o;
      object = at (object_spot l o) o 0 (of_object born);
      roots = at (roots_spot l p) p 0 (of_roots (with_root_in (roots_of l p) r o));
      entry = Same;
      message = Same;
    })

-- why the fields of object o are out of p's reach
abbrev pub out_of_reach_in : List ℕ → ℕ → ℕ → List Refusal
out_of_reach_in l p o = (EMPTY when is_none o) ∷ (AWAY when not (owned_by p o)) ∷ (TORN when not (object_of l o).live) ∷ []

-- LOAD P r q f, o the object in root q
unfoldable pub load_plan : List ℕ → ℕ → ℕ → ℕ → ℕ → Plan
load_plan l p r o f = answered refused_plan (out_of_reach_in l p o) (root_plan l p r (get_or (object_of l o).fields f 0))

-- STORE P q f r, o the object in root q
unfoldable pub store_plan : List ℕ → ℕ → ℕ → ℕ → ℕ → Plan
store_plan l p o f r =
    answered refused_plan (out_of_reach_in l p o) (record {
      answer = ACCEPTED;
      deed = Arranged;
      object = at (object_spot l o) o 0 (of_object (with_field_in (object_of l o) f (root_of l p r)));
      roots = Same;
      entry = Same;
      message = Same;
    })

-- SEND P r Q, o the object in root r
unfoldable pub send_plan : List ℕ → ℕ → ℕ → ℕ → Plan
send_plan l p q o =
    answered refused_plan
    (
    (SELF when eqb p q)
    ∷ (EMPTY when is_none o)
    ∷ (TORN when (is_dead_own_in l p o or refuses (sent p q o (entry_of l p o))))
    ∷ (FULL when not (ltb (empty_place_in l) PLACES))
    ∷ []
    )
    (record {
      answer = ACCEPTED;
      deed = Sent (empty_place_in l);
      object = Same;
      roots = Same;
      entry = at (entry_spot_in l p o) p o (h.Entry (sent p q o (entry_of l p o)).entry);
      message = at (message_spot l (empty_place_in l)) (empty_place_in l) 0 (h.Message (m.Reference p q o));
    })

-- RECEIVE s r of what stands in place s
unfoldable pub receive_plan : List ℕ → ℕ → ℕ → Message → Plan
receive_plan l s r m.Empty = refused_plan NOMSG
receive_plan l s r (m.Decrement from to o k n) = refused_plan NOMSG
receive_plan l s r (m.Reference from to o) =
    answered refused_plan
    (
    (ROOT when not (is_none (root_of l to r)))
    ∷ (TORN when (is_dead_own_in l to o or refuses (received from to o (entry_of l to o))))
    ∷ []
    )
    (record {
      answer = ACCEPTED;
      deed = receipt s from (entry_of l to o);
      object = Same;
      roots = at (roots_spot l to) to 0 (of_roots (with_root_in (roots_of l to) r o));
      entry = at (entry_spot_in l to o) to o (h.Entry (received from to o (entry_of l to o)).entry);
      message = at (message_spot l s) s 0 (h.Message (reply from to o (entry_of l to o)));
    })

-- SETTLE s of what stands in place s
unfoldable pub settle_plan : List ℕ → ℕ → Message → Plan
settle_plan l s m.Empty = refused_plan NOMSG
settle_plan l s (m.Reference from to o) = refused_plan NOMSG
settle_plan l s (m.Decrement from to o k n) =
    answered refused_plan
    ((TORN when refuses (settled k n (entry_of l to o))) ∷ [])
    (record {
      answer = ACCEPTED;
      deed = Settled;
      object = Same;
      roots = Same;
      entry = at (entry_spot_in l to o) to o (h.Entry (settled k n (entry_of l to o)).entry);
      message = at (message_spot l s) s 0 h.Nothing;
    })

-- DROP P o of what stands there
unfoldable pub drop_plan : List ℕ → ℕ → ℕ → Entry → Plan
drop_plan l p o Absent = refused_plan NOENTRY
drop_plan l p o (AtOwner d) =
    answered refused_plan
    ((BUSY when not (may_go (AtOwner d))) ∷ [])
    (record {
      answer = ACCEPTED;
      deed = Cleared;
      object = Same;
      roots = Same;
      entry = at (entry_spot_in l p o) p o h.Nothing;
      message = Same;
    })
drop_plan l p o (Elsewhere e) =
    answered refused_plan
    ((BUSY when not (may_go (Elsewhere e))) ∷ (FULL when not (ltb (empty_place_in l) PLACES)) ∷ [])
    (record {
      answer = ACCEPTED;
      deed = Dropped (empty_place_in l);
      object = Same;
      roots = Same;
      entry = at (entry_spot_in l p o) p o h.Nothing;
      message = at (message_spot l (empty_place_in l)) (empty_place_in l) 0 (h.Message (last_words p o e));
    })

-- ---- the plan of an event; COLLECT has none

unfoldable pub plan_for : Kind → List ℕ → Event → Plan
plan_for k.New l e = new_plan l e.a e.b (OWNED * e.a + free_own_in l e.a)
plan_for k.Move l e = root_plan l e.a e.b (root_of l e.a e.c)
plan_for k.Clear l e = root_plan l e.a e.b NONE
plan_for k.Load l e = load_plan l e.a e.b (root_of l e.a e.c) e.d
plan_for k.Store l e = store_plan l e.a (root_of l e.a e.b) e.c e.d
plan_for k.Send l e = send_plan l e.a e.c (root_of l e.a e.b)
plan_for k.Receive l e = receive_plan l e.a e.b (message_of l e.a)
plan_for k.Settle l e = settle_plan l e.a (message_of l e.a)
plan_for k.Collect l e = refused_plan EVENT
plan_for k.Drop l e = drop_plan l e.a e.b (entry_of l e.a e.b)
plan_for k.Unknown l e = refused_plan EVENT

-- what isn't an event of its kind's shape is refused
abbrev pub plan_of : List ℕ → Event → Plan
plan_of l e = answered refused_plan ((EVENT when not (fits_event e)) ∷ []) (plan_for (kind_of e.kind) l e)

-- all changes: the event count, then what the plan says
abbrev pub changes_of : ℕ → Plan → List Change
changes_of n plan = To 0 8 0 0 (h.Count n) ∷ plan.object ∷ plan.roots ∷ plan.entry ∷ plan.message ∷ []
