use Rattle.std.proofs.Common.{refl, ◌∙◌, arith}
use Rattle.run.proofs.Written.{wrote_part}
use Rattle.run.proofs.text.Text.text.Goals as goal

pub returns : goal.returns
returns c = record {
  same_reference = refl;
  wrote = wrote_part _ _ c.requires (c.copy_from_slice.ensures.after ∙ c.as_bytes.ensures.value) (omega arith);
}
