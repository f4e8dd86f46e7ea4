-- The order of records (document 01, "Order" and 23 ORDER): each record has a position in the image, and after each it is fixed from
-- which position to which the next may stand. Definitions only; assumes nothing.
use Rattle.std.specs.Prelude.{Bool, List, ℕ, ◌+◌, ◌*◌, leb, ltb, if◌then◌else◌}
use Rattle.terms.specs.Choose.{◌and◌}
use Rattle.terms.specs.Limits.{NODES}
use Rattle.image.specs.declared.RecordKind.{RecordKind}
use Rattle.image.specs.declared.RecordKind.TheVariants.{Count, Live, NodeRoots, Directory, Remote, Reference, Decrement, End, Unknown}
use Rattle.image.specs.declared.Turn.{Turn}
use Rattle.image.specs.Content.{number}

-- a position: the section of the image, then the key within it; no key reaches 65,536
abbrev pub position : ℕ → ℕ → ℕ
position section key = 65536 * section + key

-- live objects rising; nodes' roots in turn; directories by object; remote entries by node, then object; messages of both sorts by place
abbrev pub position_of : RecordKind → List ℕ → ℕ
position_of Count ns = position 0 0
position_of Live ns = position 1 (number ns 0)
position_of NodeRoots ns = position 2 (number ns 0)
position_of Directory ns = position 3 (number ns 0)
position_of Remote ns = position 4 (256 * number ns 0 + number ns 1)
position_of Reference ns = position 5 (number ns 0)
position_of Decrement ns = position 5 (number ns 0)
position_of End ns = position 6 0
position_of Unknown ns = position 7 0

abbrev pub turn : ℕ → ℕ → Turn
turn first last = record { first = first; last = last }

-- the image begins with the event count
abbrev pub first_turn : Turn
first_turn = turn (position 0 0) (position 0 0)

-- after a record at this position: objects up to the first node's roots; each node's roots in its turn; then all else up to the end
abbrev pub turn_after : RecordKind → List ℕ → Turn
turn_after Count ns = turn (position 1 0) (position 2 0)
turn_after Live ns = turn (position_of Live ns + 1) (position 2 0)
turn_after NodeRoots ns =
    if ltb (number ns 0 + 1) NODES
    then turn (position_of NodeRoots ns + 1) (position_of NodeRoots ns + 1)
    else turn (position 3 0) (position 6 0)
turn_after Directory ns = turn (position_of Directory ns + 1) (position 6 0)
turn_after Remote ns = turn (position_of Remote ns + 1) (position 6 0)
turn_after Reference ns = turn (position_of Reference ns + 1) (position 6 0)
turn_after Decrement ns = turn (position_of Decrement ns + 1) (position 6 0)
turn_after End ns = turn (position 7 0) (position 6 0)
turn_after Unknown ns = turn (position 7 0) (position 6 0)

-- the record may come next
abbrev pub in_turn : Turn → RecordKind → List ℕ → Bool
in_turn now k ns = leb now.first (position_of k ns) and leb (position_of k ns) now.last
