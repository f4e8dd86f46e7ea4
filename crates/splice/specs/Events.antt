-- What each event but COLLECT changes (document 01, "Events"): at most four records, of the count, an object or a node's roots, an entry and a
-- place in the air. What is said of it stands here, and why it holds in proofs/Events.antt. Assumes nothing.
use Rattle.std.specs.Prelude.{[], ◌∷◌, ℕ}
use Rattle.entry.specs.declared.Entry.{Entry}
use Rattle.heap.specs.declared.Object.{Object}
use Rattle.heap.specs.declared.Roots.{Roots}
use Rattle.table.specs.declared.Message.{Message}
use Rattle.image.specs.declared.RecordKind.TheVariants.{Count}
use Rattle.image.specs.Records.{row}
use Rattle.image.specs.Spots.{count, object, roots, message}
use Rattle.image.specs.Stored.{live_record, node_record}
use Rattle.image.specs.Writer.{message_record}
use Rattle.splice.specs.Changed.{entry_spot, entry_record}
use Rattle.splice.specs.Patched.{Change, change}

-- ---- the changes

abbrev pub count_to : ℕ → Change
count_to n = change count (row Count (n ∷ []) ∷ [])

abbrev pub object_to : ℕ → Object → Change
object_to o x = change (object o) (live_record o x)

abbrev pub roots_to : ℕ → Roots → Change
roots_to p x = change (roots p) (node_record p x)

abbrev pub entry_to : ℕ → ℕ → Entry → Change
entry_to p o e = change (entry_spot p o) (entry_record p o e)

abbrev pub message_to : ℕ → Message → Change
message_to s x = change (message s) (message_record s x)
