use Rattle.std.proofs.Common.{arith}
use Rattle.run.proofs.Decimal.{same_decimal}
use Rattle.run.proofs.text.Text.decimal.Goals as goal

pub text-requires : goal.text-requires
text-requires c = rw (c.format.ensures.text, ← same_decimal c.args.n (omega arith)) c.requires

pub returns : goal.returns
returns c = rw (same_decimal c.args.n (omega arith), ← c.format.ensures.text) c.text.ensures
