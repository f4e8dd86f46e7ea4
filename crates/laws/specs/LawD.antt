-- Law D: whatever is reached is live (document 01, law D). Definitions only; assumes nothing.
use Rattle.std.specs.Prelude.{◌≡◌, true, List, [], ◌∷◌, ◌++◌, ℕ}
use Rattle.terms.specs.Counted.{gather}
use Rattle.terms.specs.Limits.{NODES, PLACES}
use Rattle.heap.specs.Heap.{is_live, roots_of}
use Rattle.heap.specs.Walk.{Reached, everywhere}
use Rattle.table.specs.declared.Message.{Message}
use Rattle.table.specs.declared.Message.TheVariants.{Empty, Reference, Decrement}
use Rattle.table.specs.declared.Table.{Table}
use Rattle.table.specs.Table.{message_at}

-- the object of a reference in the air; a decrement keeps nothing alive
abbrev pub reference_in : Message → List ℕ
reference_in Empty = []
reference_in (Reference from to o) = o ∷ []
reference_in (Decrement from to o m n) = []

-- any root of any node, and any reference in the air
unfoldable pub in_use : Table → List ℕ
in_use t = gather NODES (roots_of t.heap) ++ gather PLACES (λ s. reference_in (message_at t s))

-- reached from these, through fields on any node
abbrev pub Used : Table → ℕ → Type 0
Used t o = Reached t.heap everywhere (in_use t) o

abbrev pub LawD : Table → Type 0
LawD t = (o : ℕ) → Used t o → is_live t.heap o ≡ true
