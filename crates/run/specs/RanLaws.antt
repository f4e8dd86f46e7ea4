-- What a caller of a run may count on: the text that came back lies inside the buffer. Assumes nothing.
use Rattle.std.specs.Prelude.{Bool, true, false, List, ℕ, ◌≤◌, length, if◌then◌else◌}
use Rattle.std.proofs.Common.{arith, length-append}
use Rattle.terms.specs.Bytes.{over}
use Rattle.run.specs.Ran.{is_short, ran, run_bytes, told, untold}
use Rattle.run.specs.Run.{run_text}

pub ran_inside : (input out : List ℕ) → (ran input out).length ≤ length (run_bytes input out)
unfolding ran run_bytes
ran_inside input out = go (is_short out)
  where
    go : (short : Bool) → (if short then untold else told input).length ≤ length (if short then out else over (run_text input) out)
    go true = omega arith
    go false = rw length-append (omega arith)
