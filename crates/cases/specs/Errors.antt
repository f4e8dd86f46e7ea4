-- The four errors that document 01 wants shut out. Each is written down as a rule of its own, and a state and an event are shown at which it
-- and the right rule differ. All by computation; assumes nothing.
use Rattle.std.specs.Prelude.{◌≡◌, refl, Bool, true, false, not, List, [], ◌∷◌, ◌++◌, ℕ, ◌+◌, ◌*◌, eqb, ltb, ℤ, pos, negsuc, if◌then◌else◌}
use Rattle.terms.specs.Choose.{◌or◌, ◌when◌}
use Rattle.terms.specs.Counted.{gather}
use Rattle.terms.specs.Limits.{OWNED}
use Rattle.terms.specs.Numbers.{ACCEPTED, BUSY}
use Rattle.entry.specs.declared.Entry.{Entry}
use Rattle.entry.specs.declared.Entry.TheVariants.{Absent, AtOwner, Elsewhere}
use Rattle.entry.specs.Acts.{directory}
use Rattle.entry.specs.Entry.{msg_ctr_of, rc_of, returns, weight}
use Rattle.heap.specs.Heap.{roots_of}
use Rattle.heap.specs.Walk.{owned_by, reached}
use Rattle.table.specs.declared.Message.{Message}
use Rattle.table.specs.declared.Message.TheVariants.{Empty, Reference, Decrement}
use Rattle.table.specs.declared.Table.{Table}
use Rattle.table.specs.Table.{entry_at, fresh_table, is_reference_of, message_at, with_entry, with_message}
use Rattle.step.specs.declared.Event.{Event}
use Rattle.step.specs.Collect.{collect_keeping}
use Rattle.step.specs.Drop.{drop}
use Rattle.step.specs.Event.{event, NEW, CLEAR, SEND, RECEIVE, SETTLE, COLLECT, DROP}
use Rattle.step.specs.Outcome.{Rule, by, value_of}
use Rattle.step.specs.Receive.{with_received}
use Rattle.step.specs.Step.{step}
use Rattle.cases.specs.Edges.{after_all}
use Rattle.cases.specs.Rules.{rules}

-- ---- clearing on RC 0 alone while a return is in the air

-- node 3 has sent object 0 home and dropped its entry; the decrement is settled, the reference still in the air
abbrev returning : List Event
returning =
    event NEW 0 0 0 0
    ∷ event SEND 0 0 3 0
    ∷ event RECEIVE 0 0 0 0
    ∷ event SEND 3 0 0 0
    ∷ event CLEAR 3 0 0 0
    ∷ event COLLECT 3 0 0 0
    ∷ event DROP 3 0 0 0
    ∷ event SETTLE 1 0 0 0
    ∷ []

unfoldable pub returning_table : Table
returning_table = after_all fresh_table returning

-- the error: a directory may go when RC is 0, whatever MsgCtr says
abbrev pub drop_on_rc_alone : Table → ℕ → ℕ → Rule
drop_on_rc_alone t p o = record { refusals = (BUSY when not (eqb (rc_of (entry_at t p o)) 0)) ∷ []; effect = (drop t p o).effect }

-- a reference is in the air; the right rule is BUSY, the error lets the directory go
pub not_on_rc_alone :
    (is_reference_of 0 (message_at returning_table 0) ≡ true)
    × ((step returning_table (event DROP 0 0 0 0)).answer ≡ BUSY)
    × ((by returning_table (drop_on_rc_alone returning_table 0 0)).answer ≡ ACCEPTED)
unfolding rules after_all returning_table
not_on_rc_alone = (refl, refl, refl)

-- ---- starting COLLECT only where MsgCtr is above 0

abbrev is_above : ℤ → Bool
is_above (pos n) = ltb 0 n
is_above (negsuc n) = false

-- COLLECT with another test for where a directory makes it start
abbrev pub collect_starting : (Entry → Bool) → Table → ℕ → Rule
collect_starting test t p =
    let start : ℕ → List ℕ = λ o. if test (entry_at t p o) then o ∷ [] else [] in
    collect_keeping t p (reached t.heap (owned_by p) (roots_of t.heap p ++ gather OWNED (λ k. start (OWNED * p + k))))

-- a table that was loaded, not run: object 0 is live, no root names it, its directory has RC 0 and MsgCtr -1
unfoldable pub owing : Table
owing = with_entry (after_all fresh_table (event NEW 0 0 0 0 ∷ event CLEAR 0 0 0 0 ∷ [])) 0 0 (AtOwner (directory 0 (returns (negsuc 0))))

-- the right rule keeps it, the error reclaims it
pub not_only_above_zero :
    (value_of (step owing (event COLLECT 0 0 0 0)).deed ≡ 0)
    × (value_of (by owing (collect_starting (λ e. ltb 0 (rc_of e) or is_above (msg_ctr_of e)) owing 0)).deed ≡ 1)
unfolding rules after_all owing
not_only_above_zero = (refl, refl)

-- the same error without regard to RC shows in four events from the fresh state: node 3 holds object 0, and its owner lets it go
unfoldable pub lent : Table
lent = after_all fresh_table (event NEW 0 0 0 0 ∷ event SEND 0 0 3 0 ∷ event RECEIVE 0 0 0 0 ∷ event CLEAR 0 0 0 0 ∷ [])

pub not_msgctr_alone :
    (value_of (step lent (event COLLECT 0 0 0 0)).deed ≡ 0) × (value_of (by lent (collect_starting (λ e. is_above (msg_ctr_of e)) lent 0)).deed ≡ 1)
unfolding rules after_all lent
not_msgctr_alone = (refl, refl)

-- ---- changing Parent when a second sender's reference arrives

-- nodes 1 and 2 hold object 0 from its owner, and node 2 sends it to node 1
unfoldable pub second_sender : Table
second_sender =
    after_all fresh_table
    (event NEW 0 0 0 0
    ∷ event SEND 0 0 1 0
    ∷ event RECEIVE 0 0 0 0
    ∷ event SEND 0 0 2 0
    ∷ event RECEIVE 0 0 0 0
    ∷ event SEND 2 0 1 0
    ∷ [])

abbrev pub parent_of : Entry → ℕ
parent_of Absent = 255
parent_of (AtOwner d) = 255
parent_of (Elsewhere e) = e.parent

-- the error: the entry hangs under its latest sender
abbrev pub reparented : ℕ → Entry → Entry
reparented from Absent = Absent
reparented from (AtOwner d) = AtOwner d
reparented from (Elsewhere e) =
    Elsewhere (record { rc = e.rc; parent = from; presence = e.presence; msg_ctr = e.msg_ctr; ref_weight = e.ref_weight })

abbrev pub received_reparented : Table → ℕ → ℕ → ℕ → ℕ → ℕ → Table
received_reparented t s r from to o = let u = with_received t s r from to o in with_entry u to o (reparented from (entry_at u to o))

-- the right rule keeps the Parent 0 and answers node 2; the error has Parent 2
pub not_the_second_parent :
    (parent_of (entry_at (step second_sender (event RECEIVE 0 1 0 0)).table 1 0) ≡ 0)
    × (message_at (step second_sender (event RECEIVE 0 1 0 0)).table 0 ≡ Decrement 1 2 0 (returns (pos 0)) (weight 1))
    × (parent_of (entry_at (received_reparented second_sender 0 1 2 1 0) 1 0) ≡ 2)
unfolding rules after_all second_sender
not_the_second_parent = (refl, refl, refl)

-- ---- sending n = 1 on DROP whatever the weight

-- node 1 has received object 0 twice from its owner, and holds it no more
unfoldable pub twice_received : Table
twice_received =
    after_all fresh_table
    (event NEW 0 0 0 0
    ∷ event SEND 0 0 1 0
    ∷ event RECEIVE 0 0 0 0
    ∷ event SEND 0 0 1 0
    ∷ event RECEIVE 0 1 0 0
    ∷ event CLEAR 1 0 0 0
    ∷ event CLEAR 1 1 0 0
    ∷ event COLLECT 1 0 0 0
    ∷ [])

-- the error: the decrement that a dropped entry sends has weight 1
abbrev pub of_weight_one : Message → Message
of_weight_one Empty = Empty
of_weight_one (Reference from to o) = Reference from to o
of_weight_one (Decrement from to o m n) = Decrement from to o m (weight 1)

unfoldable pub dropped_right : Table
dropped_right = (step twice_received (event DROP 1 0 0 0)).table

unfoldable pub dropped_by_one : Table
dropped_by_one = with_message dropped_right 0 (of_weight_one (message_at dropped_right 0))

-- settled, the right decrement leaves the directory with RC 0; the error's leaves RC 1 for ever
pub not_weight_one :
    (rc_of (entry_at (step dropped_right (event SETTLE 0 0 0 0)).table 0 0) ≡ 0)
    × (rc_of (entry_at (step dropped_by_one (event SETTLE 0 0 0 0)).table 0 0) ≡ 1)
unfolding rules after_all twice_received dropped_right dropped_by_one
not_weight_one = (refl, refl)
