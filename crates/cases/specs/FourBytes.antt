-- What the four bytes of the return count buy. Nine events make the same table by document 01's rules and by the rules of
-- specs/WithoutReturns.antt. The tenth, a COLLECT, keeps by the first what by the second it reclaims: an object that a reference in the air still
-- names. All by computation; assumes nothing.
use Rattle.std.specs.Prelude.{◌≡◌, refl, true, false, List, [], ◌∷◌, pos}
use Rattle.std.proofs.lemmas.Bool.{false≢true}
use Rattle.std.proofs.Common.{arith}
use Rattle.terms.specs.Numbers.{ACCEPTED, TORN}
use Rattle.entry.specs.declared.Entry.TheVariants.{AtOwner}
use Rattle.entry.specs.Acts.{directory}
use Rattle.entry.specs.Entry.{returns}
use Rattle.heap.specs.Heap.{born, fresh_heap, is_live, with_object}
use Rattle.heap.specs.Walk.{Reached}
use Rattle.table.specs.declared.Message.TheVariants.{Reference}
use Rattle.table.specs.declared.Table.{Table}
use Rattle.table.specs.Table.{fresh_table, message_at, with_count, with_entry, with_heap, with_message}
use Rattle.step.specs.declared.Event.{Event}
use Rattle.step.specs.Deed.{Collected}
use Rattle.step.specs.Outcome.{Outcome}
use Rattle.step.specs.Event.{event, NEW, CLEAR, SEND, RECEIVE, SETTLE, COLLECT, DROP}
use Rattle.step.specs.Step.{step}
use Rattle.laws.specs.LawD.{LawD, in_use}
use Rattle.cases.specs.Edges.{after_all}
use Rattle.cases.specs.Rules.{rules}
use Rattle.cases.specs.WithoutReturns.{step_on_rc}

-- ---- nine events

-- node 3 gets object 0 from its owner, node 0, sends it home and drops its entry; the decrement is settled while the reference is in the air,
-- and the owner lets go of the object
abbrev pub nine : List Event
nine =
    event NEW 0 0 0 0
    ∷ event SEND 0 0 3 0
    ∷ event RECEIVE 0 0 0 0
    ∷ event SEND 3 0 0 0
    ∷ event CLEAR 3 0 0 0
    ∷ event COLLECT 3 0 0 0
    ∷ event DROP 3 0 0 0
    ∷ event SETTLE 1 0 0 0
    ∷ event CLEAR 0 0 0 0
    ∷ []

-- the table after them, nine events accepted: object 0 is live, and no root names it; its directory has RC 0, and its MsgCtr alone knows of the
-- reference that is on its way home
abbrev pub airborne : Table
airborne =
    with_count
    (with_heap
    (with_message (with_entry fresh_table 0 0 (AtOwner (directory 0 (returns (pos 1))))) 0 (Reference 3 0 0))
    (with_object fresh_heap 0 born))
    9

-- it is, by document 01's rules
pub nine_with : after_all fresh_table nine ≡ airborne
unfolding rules after_all
nine_with = refl

-- the table after some events by the rules without the return count
unfoldable pub after_all_on_rc : Table → List Event → Table
after_all_on_rc t [] = t
after_all_on_rc t (e ∷ es) = after_all_on_rc (step_on_rc t e).table es

-- and by these
pub nine_without : after_all_on_rc fresh_table nine ≡ airborne
unfolding rules step_on_rc after_all_on_rc
nine_without = refl

-- ---- the tenth

-- the owner collects
abbrev tenth : Event
tenth = event COLLECT 0 0 0 0

-- without the return count
unfoldable pub without : Outcome
without = step_on_rc airborne tenth

-- one object is reclaimed, object 0, and the reference to it is still in the air
pub reclaimed_in_the_air :
    (without.answer ≡ ACCEPTED)
    × (without.deed ≡ Collected 1)
    × (is_live without.table.heap 0 ≡ false)
    × (message_at without.table 0 ≡ Reference 3 0 0)
unfolding rules step_on_rc without
reclaimed_in_the_air = (refl, refl, refl, refl)

-- so law D does not hold of these rules
pub law_d_broken : LawD without.table → ⊥
unfolding rules step_on_rc without in_use
law_d_broken law = false≢true (law 0 (Reached.started {o = 0} (record { number = omega arith; inside = refl }) refl))

-- and the reference can't be received when it comes home
pub lost_at_home : (step_on_rc without.table (event RECEIVE 0 0 0 0)).answer ≡ TORN
unfolding rules step_on_rc without
lost_at_home = refl

-- with the return count
unfoldable pub with : Outcome
with = step airborne tenth

-- nothing is reclaimed: object 0 stays live while the reference is in the air
pub kept_in_the_air :
    (with.answer ≡ ACCEPTED)
    × (with.deed ≡ Collected 0)
    × (is_live with.table.heap 0 ≡ true)
    × (message_at with.table 0 ≡ Reference 3 0 0)
unfolding rules with
kept_in_the_air = (refl, refl, refl, refl)

-- and the reference is received when it comes home
pub received_at_home : (step with.table (event RECEIVE 0 0 0 0)).answer ≡ ACCEPTED
unfolding rules with
received_at_home = refl
