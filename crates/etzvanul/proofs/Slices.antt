-- An accepted image tells of the table that is read from it, and so does a slice of its bytes. Assumes nothing.
use Rattle.std.specs.Prelude.{◌≡◌, List, ℕ, get_or}
use mir.Syntax.{w8}
use mir.Val.{Fits}
use Rattle.terms.specs.Numbers.{ACCEPTED}
use Rattle.image.specs.Reader.{read}
use Rattle.plan.specs.Accepted.{told}
use Rattle.plan.specs.Told.{Told}
use Rattle.plan.proofs.Slices.{slice_bytes}

pub slice_told : (l : List ℕ) → ((i : ℕ) → Fits w8 (get_or l i 0)) → (read l).answer ≡ ACCEPTED → Told l (read l).table
slice_told l each accepted = told l (slice_bytes l each) accepted
