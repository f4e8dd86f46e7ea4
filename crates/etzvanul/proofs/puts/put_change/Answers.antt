use Rattle.std.proofs.Common.{refl}
use Rattle.image.proofs.StoredLaws.{stored_both}
use Rattle.etzvanul.proofs.puts.put_change.Goals as goal

pub returns : goal.returns
returns c =
    rw c.in-Some.is
    (record { place = refl; stored = stored_both c.copy_part-to.ensures (rw c.record_of-record.ensures.front at c.copy_part.ensures) })
