-- SEND P r Q: the reference in root r goes into the lowest empty place; root r keeps it (document 01, SEND; document 000, section 4.5).
-- Definitions only; assumes nothing.
use Rattle.std.specs.Prelude.{Bool, not, [], ◌∷◌, ℕ, ltb, eqb}
use Rattle.terms.specs.Choose.{◌when◌, ◌and◌, ◌or◌}
use Rattle.terms.specs.Limits.{PLACES}
use Rattle.terms.specs.Numbers.{SELF, EMPTY, TORN, FULL}
use Rattle.entry.specs.AtNode.{sent, refuses}
use Rattle.heap.specs.Heap.{root_at, is_live, is_none}
use Rattle.heap.specs.Walk.{owned_by}
use Rattle.table.specs.declared.Table.{Table}
use Rattle.table.specs.declared.Message.TheVariants.{Reference}
use Rattle.table.specs.Table.{entry_at, with_entry, with_message, empty_place}
use Rattle.step.specs.Deed.{Sent}
use Rattle.step.specs.Outcome.{Rule, did}

-- no place for a message
abbrev pub is_full : Table → Bool
is_full t = not (ltb (empty_place t) PLACES)

-- an object of p that isn't live
abbrev pub is_dead_own : Table → ℕ → ℕ → Bool
is_dead_own t p o = owned_by p o and not (is_live t.heap o)

-- own object not live; no entry with Presence true for another's; or a count would leave its range
abbrev pub send_torn : Table → ℕ → ℕ → ℕ → Bool
send_torn t p q o = is_dead_own t p o or refuses (sent p q o (entry_at t p o))

-- the sender's entry counts the reference, and the reference is in the air
abbrev pub with_sent : Table → ℕ → ℕ → ℕ → Table
with_sent t p q o = with_message (with_entry t p o (sent p q o (entry_at t p o)).entry) (empty_place t) (Reference p q o)

unfoldable pub send : Table → ℕ → ℕ → ℕ → Rule
send t p r q = record {
  refusals =
      (SELF when eqb p q)
      ∷ (EMPTY when is_none (root_at t.heap p r))
      ∷ (TORN when send_torn t p q (root_at t.heap p r))
      ∷ (FULL when is_full t)
      ∷ [];
  effect = did (Sent (empty_place t)) (with_sent t p q (root_at t.heap p r));
}
