-- What is read of an entry, whichever sort it is (document 01, "The field table"). Definitions only; assumes nothing.
use Rattle.std.specs.Prelude.{Bool, true, false, ℕ, ℤ, pos, negsuc, ◌+ℤ◌, eqb}
use Rattle.entry.specs.declared.ReturnCount.{ReturnCount}
use Rattle.entry.specs.declared.Weight.{Weight}
use Rattle.entry.specs.declared.Directory.{Directory}
use Rattle.entry.specs.declared.Entry.{Entry}
use Rattle.entry.specs.declared.Entry.TheVariants.{Absent, AtOwner, Elsewhere}
use Rattle.terms.specs.Choose.{◌and◌}

-- ---- return counts and weights

abbrev pub returns : ℤ → ReturnCount
returns z = record { 0 = z }

abbrev pub weight : ℕ → Weight
weight n = record { 0 = n }

-- no return
abbrev pub none : ReturnCount
none = returns (pos 0)

-- a return more
abbrev pub more : ReturnCount → ReturnCount
more c = returns (c.0 +ℤ pos 1)

-- a return fewer
abbrev pub fewer : ReturnCount → ReturnCount
fewer c = returns (c.0 +ℤ negsuc 0)

-- two return counts together
abbrev pub both : ReturnCount → ReturnCount → ReturnCount
both c m = returns (c.0 +ℤ m.0)

-- the return count is exactly zero: below zero is not zero
abbrev pub is_none : ℤ → Bool
is_none (pos n) = eqb n 0
is_none (negsuc n) = false

-- ---- an entry

abbrev pub is_absent : Entry → Bool
is_absent Absent = true
is_absent (AtOwner d) = false
is_absent (Elsewhere e) = false

abbrev pub is_directory : Entry → Bool
is_directory Absent = false
is_directory (AtOwner d) = true
is_directory (Elsewhere e) = false

abbrev pub is_remote : Entry → Bool
is_remote Absent = false
is_remote (AtOwner d) = false
is_remote (Elsewhere e) = true

-- a remote entry with Presence true
abbrev pub is_present : Entry → Bool
is_present Absent = false
is_present (AtOwner d) = false
is_present (Elsewhere e) = e.presence

-- RC; 0 where no entry stands
abbrev pub rc_of : Entry → ℕ
rc_of Absent = 0
rc_of (AtOwner d) = d.rc
rc_of (Elsewhere e) = e.rc

-- MsgCtr; 0 where no entry stands
abbrev pub msg_ctr_of : Entry → ℤ
msg_ctr_of Absent = pos 0
msg_ctr_of (AtOwner d) = d.msg_ctr.0
msg_ctr_of (Elsewhere e) = e.msg_ctr.0

-- RefWeight that the entry holds of this node's count: 0 unless it is a remote entry whose Parent is this node
abbrev pub weight_under : ℕ → Entry → ℕ
weight_under node Absent = 0
weight_under node (AtOwner d) = 0
weight_under node (Elsewhere e) = elim (eqb e.parent node) [ true ↦ e.ref_weight.0 | false ↦ 0 ]

-- both numbers 0, so that nobody else holds the object
abbrev pub is_clear_directory : Directory → Bool
is_clear_directory d = eqb d.rc 0 and is_none d.msg_ctr.0

-- the directory is clear: absent, or both numbers 0
abbrev pub is_clear : Entry → Bool
is_clear Absent = true
is_clear (AtOwner d) = is_clear_directory d
is_clear (Elsewhere e) = false
