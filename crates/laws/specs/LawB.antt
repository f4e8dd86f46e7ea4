-- Law B: the return counts of an object and its references on their way home (document 01, law B). Definitions only; assumes nothing.
use Rattle.std.specs.Prelude.{◌≡◌, Bool, false, ℕ, zero, suc, ◌<◌, eqb, ℤ, pos, ◌+ℤ◌, if◌then◌else◌}
use Rattle.terms.specs.Choose.{◌and◌}
use Rattle.terms.specs.Counted.{how_many}
use Rattle.terms.specs.Limits.{NODES, OBJECTS, PLACES, owner}
use Rattle.entry.specs.Entry.{msg_ctr_of}
use Rattle.table.specs.declared.Message.{Message}
use Rattle.table.specs.declared.Message.TheVariants.{Empty, Reference, Decrement}
use Rattle.table.specs.declared.Table.{Table}
use Rattle.table.specs.Table.{entry_at, message_at}

-- the sum of the whole numbers f k over the n numbers k from k on
unfoldable pub total_from : ℕ → ℕ → (ℕ → ℤ) → ℤ
total_from k zero f = pos 0
total_from k (suc n) f = f k +ℤ total_from (suc k) n f

-- the sum over the numbers below n
abbrev pub total : ℕ → (ℕ → ℤ) → ℤ
total n f = total_from 0 n f

-- m of a decrement of o
abbrev pub returns_in : ℕ → Message → ℤ
returns_in o Empty = pos 0
returns_in o (Reference from to x) = pos 0
returns_in o (Decrement from to x m n) = if eqb x o then m.0 else pos 0

-- a reference to o that travels to the owner
abbrev pub is_homeward : ℕ → Message → Bool
is_homeward o Empty = false
is_homeward o (Reference from to x) = eqb x o and eqb to (owner o)
is_homeward o (Decrement from to x m n) = false

-- per object: MsgCtr of all entries + m of all its decrements in the air = its references in the air to the owner
abbrev pub LawB : Table → Type 0
LawB t =
    (o : ℕ) → o < OBJECTS
    → total NODES (λ p. msg_ctr_of (entry_at t p o)) +ℤ total PLACES (λ s. returns_in o (message_at t s))
    ≡ pos (how_many PLACES (λ s. is_homeward o (message_at t s)))
