-- What a rule asks of a root before anything changes, as the code finds it: the object, or why there is none to go on with. Definitions only;
-- assumes nothing.
use Rattle.std.specs.Prelude.{not, ℕ, Result, Ok, Err, if◌then◌else◌}
use Rattle.terms.specs.declared.Refusal.{Refusal}
use Rattle.terms.specs.declared.Refusal.TheVariants as r
use Rattle.heap.specs.declared.Heap.{Heap}
use Rattle.heap.specs.Heap.{root_at, is_live, is_none}
use Rattle.heap.specs.Walk.{owned_by}

-- the object in root q of p
abbrev pub named : Heap → ℕ → ℕ → Result ℕ Refusal
named h p q = if is_none (root_at h p q) then Err r.Empty else Ok (root_at h p q)

-- the object in root q of p, whose fields are in p's reach: Load's out_of_reach lists why they may not be
abbrev pub in_reach : Heap → ℕ → ℕ → Result ℕ Refusal
in_reach h p q =
    let o = root_at h p q in
    if is_none o then Err r.Empty
    else if not (owned_by p o) then Err r.Away
    else if not (is_live h o) then Err r.Torn
    else Ok o
