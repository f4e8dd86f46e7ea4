-- What the return count adds to RC (document 01, laws A, B and C): where the directory's RC is 0, its MsgCtr is exactly the number of references on
-- their way home, of which RC knows nothing. What is said of it stands here, and why it holds in proofs/OnTheWayHome.antt. Assumes nothing.
use Rattle.std.specs.Prelude.{◌≡◌, ℕ, ◌<◌, pos}
use Rattle.terms.specs.Counted.{how_many}
use Rattle.terms.specs.Limits.{OBJECTS, PLACES, owner}
use Rattle.entry.specs.Entry.{msg_ctr_of, rc_of}
use Rattle.table.specs.declared.Table.{Table}
use Rattle.table.specs.Table.{entry_at, message_at}
use Rattle.laws.specs.LawB.{is_homeward}

-- references to object o on their way to its owner
abbrev pub on_the_way_home : Table → ℕ → ℕ
on_the_way_home t o = how_many PLACES (λ s. is_homeward o (message_at t s))

-- with RC 0, MsgCtr is the number of references on their way home
abbrev pub CountsTheWayHome : Table → Type 0
CountsTheWayHome t =
    (o : ℕ) → o < OBJECTS → rc_of (entry_at t (owner o) o) ≡ 0 → msg_ctr_of (entry_at t (owner o) o) ≡ pos (on_the_way_home t o)
