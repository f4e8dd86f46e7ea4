-- As many bytes are written as the records have, since these fit the buffer.
use Rattle.std.proofs.Common.{sym, ap, arith}
use Rattle.std.proofs.lemmas.List.{length-take-le}
use Rattle.scenario.specs.Written.{Written}
use Rattle.scenario.specs.RecordLaws.{written_fits}
use Rattle.eventwrite.proofs.run.Goals as goal

pub slice_bounds-write_all-end : goal.slice_bounds-write_all-end
slice_bounds-write_all-end g c =
    let length = ap (λ (w : Written). w.length) c.in_ok-length.ensures.value in
    sym (length-take-le _ _ (grind (arith, length, written_fits)))
