-- The spot of an entry, whichever sort it is (document 01, "The field table"): a table with one entry changed has the new record there, and
-- the old ones at all other spots. Assumes nothing.
use Rattle.std.specs.Prelude.{◌≡◌, Bool, true, false, [], ℕ, ◌+◌, ◌*◌, ◌≤◌, ◌<◌, eqb, if◌then◌else◌}
use Rattle.std.proofs.Common.{sym, ap, ◌∙◌, arith, eq-eqb, ne_eqb}
use Rattle.std.proofs.Math.Decide.{ℕ_discrete}
use Rattle.std.proofs.Math.Nat.{div-eq_of_lt-le}
use Rattle.terms.specs.Limits.{NODES, OBJECTS, OWNED, owner}
use Rattle.entry.specs.declared.Entry.{Entry}
use Rattle.entry.specs.Fits.{fits_entry}
use Rattle.table.specs.declared.Table.{Table}
use Rattle.table.specs.Formed.{Formed}
use Rattle.table.specs.Table.{entry_at, with_entry}
use Rattle.table.specs.TableLaws.{entry_there}
use Rattle.image.proofs.OneSpot.{OnlyAt, directory_only, remote_only}
use Rattle.image.specs.Spots.{directory, remote, message, spot_position, record_at}
use Rattle.image.proofs.Spots.{remote_none}
use Rattle.image.specs.Writer.{remote_record}
use Rattle.splice.specs.Spread.{Within}
use Rattle.splice.specs.Changed.{entry_spot, entry_record}

-- the entry is no remote one at the owner, as in every table in shape
abbrev pub Proper : ℕ → ℕ → Entry → Type 0
Proper p o e = p ≡ owner o → remote_record p o e ≡ []

pub proper : (p o : ℕ) (e : Entry) → fits_entry p o e ≡ true → Proper p o e
proper p o e fits at = remote_none p o e at fits

-- its spot is in the limits of a field
pub entry_within : (p o : ℕ) → p < NODES → o < OBJECTS → Within (entry_spot p o)
entry_within p o lp lo = go (eqb p (owner o))
  where
    go : (b : Bool) → Within (if b then directory o else remote p o)
    go true = lo
    go false = (lp, lo)

-- it stands behind all roots and before all messages
pub entry_between : (p o : ℕ) → p < NODES → o < OBJECTS
    → (spot_position (directory 0) ≤ spot_position (entry_spot p o)) × (spot_position (entry_spot p o) < spot_position (message 0))
entry_between p o lp lo = go (eqb p (owner o))
  where
    go : (b : Bool) → (spot_position (directory 0) ≤ spot_position (if b then directory o else remote p o))
        × (spot_position (if b then directory o else remote p o) < spot_position (message 0))
    go true = (omega arith, omega arith)
    go false = (omega arith, omega arith)

-- of an own object among the directories
pub own_position : (p k : ℕ) → k < OWNED → spot_position (entry_spot p (OWNED * p + k)) ≡ spot_position (directory (OWNED * p + k))
own_position p k lt =
    let here : p ≡ owner (OWNED * p + k) = sym (div-eq_of_lt-le OWNED (omega arith) (omega arith)) in
    rw (eq-eqb p (owner (OWNED * p + k)) here)

-- of another's among the remote entries of the node
pub other_position : (p o : ℕ) → (p ≡ owner o → ⊥) → spot_position (entry_spot p o) ≡ spot_position (remote p o)
other_position p o away = rw (ne_eqb p (owner o) away)

-- an entry's record stands at its spot
pub entry_record_lem : (t : Table) (p o : ℕ) → record_at t (entry_spot p o) ≡ entry_record p o (entry_at t p o)
entry_record_lem t p o = elim (ℕ_discrete p (owner o)) [ yes e ↦ rw (eq-eqb p (owner o) e, e) | no ne ↦ rw (ne_eqb p (owner o) ne) ]

module _ (t : Table) (formed : Formed t) (p o : ℕ) (lp : p < NODES) (lo : o < OBJECTS) (e : Entry) where
  pub entry_here : record_at (with_entry t p o e) (entry_spot p o) ≡ entry_record p o e
  entry_here = entry_record_lem (with_entry t p o e) p o ∙ ap (entry_record p o) (entry_there t p o e formed lo lp)

  pub entry_only : Proper p o (entry_at t p o) → Proper p o e → OnlyAt (entry_spot p o) t (with_entry t p o e)
  entry_only was is = elim (ℕ_discrete p (owner o)) [
    | yes at ↦ rw (eq-eqb p (owner o) at) (directory_only t p o e at (was at) (is at))
    | no away ↦ rw (ne_eqb p (owner o) away) (remote_only t p o e away)
  ]
