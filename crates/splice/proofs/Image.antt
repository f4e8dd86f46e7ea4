-- The image of a changed table is the old image with the changes made on its bytes (document 01, "Saved image").
-- Assumes nothing.
use Rattle.std.specs.Prelude.{◌≡◌, true, List}
use Rattle.std.proofs.Common.{ap, ◌∙◌}
use Rattle.table.specs.declared.Table.{Table}
use Rattle.table.specs.Formed.{Formed}
use Rattle.table.specs.Shape.{fits_table}
use Rattle.image.proofs.SectionsRead.{reads_records}
use Rattle.image.specs.Writer.{records_of, bytes_of_all, image}
use Rattle.splice.specs.Bytes.{patched_bytes}
use Rattle.splice.proofs.Bytes.{Fits, reads_fit, patched_bytes_lem}
use Rattle.splice.specs.Patched.{Change, Differs}
use Rattle.splice.proofs.Patched.{differs_records}

-- the records of a table in shape fit
pub records_fit : (t : Table) → Formed t → fits_table t ≡ true → Fits (records_of t)
records_fit t formed fits = reads_fit (reads_records t formed fits)

-- the image with the changes made
pub image_patched : {cs : List Change} {t u : Table} → Formed t → fits_table t ≡ true → Differs cs t u → image u ≡ patched_bytes cs (image t)
unfolding image
image_patched {cs} {t} {u} formed fits d =
    ap bytes_of_all (differs_records d) ∙ patched_bytes_lem 0 cs (records_of t) d.ascends (records_fit t formed fits)
