-- The acts on whatever stands for an object at a node: a directory, a remote entry, or nothing (document 01, SEND, RECEIVE, SETTLE, DROP and
-- COLLECT). This is all that the events know of entries. Definitions only; assumes nothing.
use Rattle.std.specs.Prelude.{Bool, false, not, ℕ, eqb, if◌then◌else◌}
use Rattle.terms.specs.Limits.{owner}
use Rattle.terms.specs.Numbers.{ACCEPTED, TORN}
use Rattle.entry.specs.declared.ReturnCount.{ReturnCount}
use Rattle.entry.specs.declared.Weight.{Weight}
use Rattle.entry.specs.declared.Remote.{Remote}
use Rattle.entry.specs.declared.Entry.{Entry}
use Rattle.entry.specs.declared.Entry.TheVariants.{Absent, AtOwner, Elsewhere}
use Rattle.entry.specs.Acts.{Acted, DirectoryAct, RemoteAct}
use Rattle.entry.specs.Acts.{first_sent, directory_sent, directory_came_home, directory_settled, directory_may_go}
use Rattle.entry.specs.Acts.{first_received, remote_sent, remote_sent_home, remote_received_again, remote_settled, remote_set_unused, remote_may_go}

abbrev pub EntryAct : Type 0
EntryAct = Acted Entry

abbrev pub done : Entry → EntryAct
done e = record { refusal = ACCEPTED; entry = e }

abbrev pub torn : Entry → EntryAct
torn e = record { refusal = TORN; entry = e }

-- the act was refused
abbrev pub refuses : EntryAct → Bool
refuses a = not (eqb a.refusal ACCEPTED)

-- an act on a directory, as one on the entry
abbrev pub of_directory : DirectoryAct → EntryAct
of_directory a = record { refusal = a.refusal; entry = AtOwner a.entry }

-- an act on a remote entry, as one on the entry
abbrev pub of_remote : RemoteAct → EntryAct
of_remote a = record { refusal = a.refusal; entry = Elsewhere a.entry }

-- a holder sends on: only with Presence true, and home to the owner in another way than to others
unfoldable pub holder_sent : Bool → Remote → EntryAct
holder_sent home e =
    if e.presence
    then (if home then of_remote (remote_sent_home e) else of_remote (remote_sent e))
    else torn (Elsewhere e)

-- the sender's entry when the object's reference goes from node to node
unfoldable pub sent : ℕ → ℕ → ℕ → Entry → EntryAct
sent from to object Absent = if eqb from (owner object) then done (AtOwner first_sent) else torn Absent
sent from to object (AtOwner d) = of_directory (directory_sent d)
sent from to object (Elsewhere e) = holder_sent (eqb to (owner object)) e

-- the receiver's entry when the reference arrives
unfoldable pub received : ℕ → ℕ → ℕ → Entry → EntryAct
received from to object Absent = if eqb to (owner object) then torn Absent else done (Elsewhere (first_received from))
received from to object (AtOwner d) = of_directory (directory_came_home d)
received from to object (Elsewhere e) = of_remote (remote_received_again e from)

-- the receiver's entry when a decrement arrives
unfoldable pub settled : ReturnCount → Weight → Entry → EntryAct
settled m n Absent = torn Absent
settled m n (AtOwner d) = of_directory (directory_settled d m n)
settled m n (Elsewhere e) = of_remote (remote_settled e m n)

-- the entry that nothing at its node holds; only a remote entry knows of it
abbrev pub set_unused : Entry → Entry
set_unused Absent = Absent
set_unused (AtOwner d) = AtOwner d
set_unused (Elsewhere e) = Elsewhere (remote_set_unused e)

-- the deletion condition
unfoldable pub may_go : Entry → Bool
may_go Absent = false
may_go (AtOwner d) = directory_may_go d
may_go (Elsewhere e) = remote_may_go e
