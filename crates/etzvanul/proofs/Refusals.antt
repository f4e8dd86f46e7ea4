-- No refusal has the number of acceptance. Assumes nothing.
use Rattle.std.specs.Prelude.{◌≢◌}
use Rattle.std.proofs.Common.{arith}
use Rattle.terms.specs.Numbers.{ACCEPTED}
use Rattle.terms.specs.Refusals.{number_of}
use Rattle.terms.specs.declared.Refusal.{Refusal}
use Rattle.terms.specs.declared.Refusal.TheVariants as r

pub refusal_number : (x : Refusal) → number_of x ≢ ACCEPTED
refusal_number r.Shape is = omega arith
refusal_number r.Event is = omega arith
refusal_number r.Ended is = omega arith
refusal_number r.NoMessage is = omega arith
refusal_number r.ToItself is = omega arith
refusal_number r.Empty is = omega arith
refusal_number r.Away is = omega arith
refusal_number r.Root is = omega arith
refusal_number r.NoRoom is = omega arith
refusal_number r.NoEntry is = omega arith
refusal_number r.Busy is = omega arith
refusal_number r.Torn is = omega arith
refusal_number r.Full is = omega arith
refusal_number r.Short is = omega arith
refusal_number r.Kind is = omega arith
refusal_number r.Length is = omega arith
refusal_number r.Order is = omega arith
refusal_number r.Value is = omega arith
refusal_number r.Trail is = omega arith
refusal_number r.Room is = omega arith
