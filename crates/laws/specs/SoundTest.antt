-- Sound as a test that computes (request P7 of document 02 asks it of a loaded table): the conditions of specs/Sound.antt, one by one, in the
-- same order. proofs/SoundTestLaws.antt proves that a table passes exactly where it is Sound. Definitions only; assumes nothing.
use Rattle.std.specs.Prelude.{Bool, true, false, not, ℕ, eqb, leb, ℤ, pos, negsuc, ◌+ℤ◌}
use Rattle.terms.specs.Choose.{◌and◌, ◌or◌}
use Rattle.terms.specs.Counted.{every, how_many}
use Rattle.terms.specs.Limits.{NODES, OBJECTS, PLACES, FIELDS, ROOTS, STEPS, owner}
use Rattle.entry.specs.Entry.{is_absent, is_directory, msg_ctr_of, rc_of}
use Rattle.heap.specs.Heap.{field_at, is_live, root_at}
use Rattle.table.specs.declared.Message.{Message}
use Rattle.table.specs.declared.Message.TheVariants.{Empty, Reference, Decrement}
use Rattle.table.specs.declared.Table.{Table}
use Rattle.table.specs.Depth.{depth, depth_number}
use Rattle.table.specs.Shape.{fits_table}
use Rattle.table.specs.Table.{entry_at, message_at}
use Rattle.laws.specs.LawA.{inflow}
use Rattle.laws.specs.LawB.{is_homeward, returns_in, total}
use Rattle.laws.specs.Sound.{below, holds_well, returns_above}

-- every node and every object passes
abbrev pub everywhere : (ℕ → ℕ → Bool) → Bool
everywhere test = every NODES (λ p. every OBJECTS (λ o. test p o))

-- two whole numbers are the same
abbrev pub is_same : ℤ → ℤ → Bool
is_same (pos m) (pos n) = eqb m n
is_same (pos m) (negsuc n) = false
is_same (negsuc m) (pos n) = false
is_same (negsuc m) (negsuc n) = eqb m n

-- RC is what hangs under the entry
unfoldable pub passes_a : Table → Bool
passes_a t = everywhere (λ p o. eqb (rc_of (entry_at t p o)) (inflow t p o))

-- return counts and references on their way home agree
unfoldable pub passes_b : Table → Bool
passes_b t =
    every OBJECTS (λ o.
    is_same (total NODES (λ p. msg_ctr_of (entry_at t p o)) +ℤ total PLACES (λ s. returns_in o (message_at t s)))
    (pos (how_many PLACES (λ s. is_homeward o (message_at t s)))))

-- Parent leads to the owner in at most seven steps
unfoldable pub passes_c : Table → Bool
passes_c t = everywhere (λ p o. is_absent (entry_at t p o) or leb (depth_number (depth t p o)) STEPS)

-- roots are held well
unfoldable pub passes_roots : Table → Bool
passes_roots t = every NODES (λ p. every ROOTS (λ r. holds_well t p (root_at t.heap p r)))

-- so are the fields of live objects
unfoldable pub passes_fields : Table → Bool
passes_fields t = every OBJECTS (λ o. not (is_live t.heap o) or every FIELDS (λ f. holds_well t (owner o) (field_at t.heap o f)))

-- directories are of live objects
unfoldable pub passes_directories : Table → Bool
passes_directories t = everywhere (λ p o. not (is_directory (entry_at t p o)) or is_live t.heap o)

-- a reference is of a live object
abbrev pub names_live : Table → Message → Bool
names_live t Empty = true
names_live t (Reference from to o) = is_live t.heap o
names_live t (Decrement from to o m n) = true

-- every message is in order so
unfoldable pub passes_references : Table → Bool
passes_references t = every PLACES (λ s. names_live t (message_at t s))

-- RC stays within the event count
unfoldable pub passes_counts : Table → Bool
passes_counts t = everywhere (λ p o. leb (rc_of (entry_at t p o)) t.count)

-- so do the return counts above zero, for each object
unfoldable pub passes_returns : Table → Bool
passes_returns t = every OBJECTS (λ o. leb (returns_above t o) t.count)

-- and no return count is further below zero
unfoldable pub passes_owed : Table → Bool
passes_owed t = everywhere (λ p o. leb (below (msg_ctr_of (entry_at t p o))) t.count)

-- the whole test
unfoldable pub is_sound : Table → Bool
is_sound t =
    fits_table t
    and passes_a t
    and passes_b t
    and passes_c t
    and passes_roots t
    and passes_fields t
    and passes_directories t
    and passes_references t
    and passes_counts t
    and passes_returns t
    and passes_owed t
