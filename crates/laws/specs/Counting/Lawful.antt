-- Laws A, B and C of one object of a table: the rule set of document 01 as an instance of crate counting, and each object's share of a table.
-- Definitions only; assumes nothing.
use Rattle.std.specs.Prelude.{refl, ℕ, pos, nat_abs}
use Rattle.std.proofs.Common.{ap}
use Rattle.terms.specs.Limits.{NODES, PLACES, owner}
use Rattle.entry.specs.declared.Entry.{Entry}
use Rattle.entry.specs.Entry.{rc_of, weight_under, msg_ctr_of}
use Rattle.counting.specs.Adding.{whole}
use Rattle.counting.specs.Rules as counting
use Rattle.table.specs.declared.Message.{Message}
use Rattle.table.specs.declared.Table.{Table}
use Rattle.table.specs.Table.{entry_at, message_at}
use Rattle.laws.specs.LawA.{air_under}
use Rattle.laws.specs.LawB.{returns_in, is_homeward}

-- what the entries and messages of document 01 add to the laws of object o
abbrev pub rules : ℕ → counting.Rules
rules o = record {
  nodes = NODES;
  places = PLACES;
  owner = owner o;
  Entry = Entry;
  Message = Message;
  rc = rc_of;
  weight = weight_under;
  air = λ p. air_under p o;
  numbers = whole;
  returns = msg_ctr_of;
  carried = returns_in o;
  home = is_homeward o;
  of = pos;
  of_none = refl;
  of_more = λ m n. refl;
  of_some = λ n few e. ap nat_abs e;
}

-- object o's share of a table
abbrev pub share : Table → (o : ℕ) → counting.Share (rules o)
share t o = record { entry = λ p. entry_at t p o; message = message_at t }

-- laws A and B of object o, and law C as a rank that falls from each remote entry to its Parent
abbrev pub Lawful : Table → ℕ → Type 0
Lawful t o = counting.Lawful (rules o) (share t o)
