-- Law C: from any remote entry Parent leads to the owner in at most seven steps (document 01, law C). Definitions only; assumes nothing.
use Rattle.std.specs.Prelude.{◌≡◌, false, ℕ, ◌≤◌, ◌<◌}
use Rattle.terms.specs.Limits.{NODES, OBJECTS, STEPS}
use Rattle.entry.specs.Entry.{is_absent}
use Rattle.table.specs.declared.Table.{Table}
use Rattle.table.specs.Depth.{depth_report}
use Rattle.table.specs.Table.{entry_at}

-- wherever an entry stands, the table reports a depth, and not 255
abbrev pub LawC : Table → Type 0
LawC t = (p o : ℕ) → p < NODES → o < OBJECTS → is_absent (entry_at t p o) ≡ false → depth_report t p o ≤ STEPS
