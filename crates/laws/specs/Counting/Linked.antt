-- An event and its act on one object, linked: besides the change, whether it is a SEND or a SETTLE of that object, so that law E can count
-- them along a sequence. Definitions only; assumes nothing.
use Rattle.std.specs.Prelude.{◌≡◌, Bool, true, false, ℕ}
use Rattle.entry.specs.declared.Entry.{Entry}
use Rattle.table.specs.declared.Message.{Message}
use Rattle.table.specs.declared.Table.{Table}
use Rattle.step.specs.declared.Event.{Event}
use Rattle.laws.specs.Counting.Change.{Act, Change}
use Rattle.laws.specs.Counting.Change.Act.{other, same, sends, receives, settles, unused, drops, clears}
use Rattle.laws.specs.LawE.{is_send_of, is_settle_of}

-- the act sends the object
abbrev pub is_sent : {o p : ℕ} {e f : Entry} {x y : Message} → Act o p e x f y → Bool
is_sent (other old new) = false
is_sent same = false
is_sent (sends away number takes) = true
is_sent (receives takes) = false
is_sent (settles takes) = false
is_sent unused = false
is_sent (drops idle) = false
is_sent (clears idle) = false

-- the act settles a decrement of the object
abbrev pub is_settled : {o p : ℕ} {e f : Entry} {x y : Message} → Act o p e x f y → Bool
is_settled (other old new) = false
is_settled same = false
is_settled (sends away number takes) = false
is_settled (receives takes) = false
is_settled (settles takes) = true
is_settled unused = false
is_settled (drops idle) = false
is_settled (clears idle) = false

-- the event took t to u: its change of object o, which is a SEND or a SETTLE of o just where the event is one
pub record Linked (t : Table) (e : Event) (u : Table) (o : ℕ) : Type 0 where
  pub change : Change t u o
  pub sent : is_sent change.act ≡ is_send_of o t e
  pub settled : is_settled change.act ≡ is_settle_of o t e
