-- The shape of an entry's numbers (document 01, "Shape"). Definitions only; assumes nothing.
use Rattle.std.specs.Prelude.{Bool, true, false, not, ℕ, leb, ltb, eqb, ℤ, pos, negsuc, nat_abs}
use Rattle.terms.specs.Choose.{◌and◌}
use Rattle.terms.specs.Limits.{MOST, NODES, owner}
use Rattle.entry.specs.declared.ReturnCount.{ReturnCount}
use Rattle.entry.specs.declared.Weight.{Weight}
use Rattle.entry.specs.declared.Directory.{Directory}
use Rattle.entry.specs.declared.Remote.{Remote}
use Rattle.entry.specs.declared.Entry.{Entry}
use Rattle.entry.specs.declared.Entry.TheVariants.{Absent, AtOwner, Elsewhere}

-- -10^9..10^9
abbrev pub within_most : ℤ → Bool
within_most z = leb (nat_abs z) MOST

-- 0..10^9
abbrev pub natural_most : ℤ → Bool
natural_most (pos n) = leb n MOST
natural_most (negsuc n) = false

-- a directory's return count
abbrev pub fits_directory_returns : ReturnCount → Bool
fits_directory_returns c = within_most c.0

-- the return count of a remote entry or a decrement
abbrev pub fits_returns : ReturnCount → Bool
fits_returns c = natural_most c.0

-- the weight of a remote entry or a decrement: 1..10^9
abbrev pub fits_weight : Weight → Bool
fits_weight w = ltb 0 w.0 and leb w.0 MOST

unfoldable pub fits_directory : Directory → Bool
fits_directory d = leb d.rc MOST and fits_directory_returns d.msg_ctr

-- the numbers of a remote entry, whichever node it stands at
unfoldable pub fits_remote : Remote → Bool
fits_remote e = leb e.rc MOST and ltb e.parent NODES and fits_returns e.msg_ctr and fits_weight e.ref_weight

-- the entry of an object at a node: a directory at the owner only, a remote entry elsewhere only and never its own Parent
unfoldable pub fits_entry : ℕ → ℕ → Entry → Bool
fits_entry node object Absent = true
fits_entry node object (AtOwner d) = eqb node (owner object) and fits_directory d
fits_entry node object (Elsewhere e) = not (eqb node (owner object)) and not (eqb e.parent node) and fits_remote e
