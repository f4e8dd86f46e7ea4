-- Changes that a function gives in turn, each looked for from where the last one ended: what is asked of the function, and how the copying and the
-- length stand where the first of them is made. Definitions only; assumes nothing.
use Rattle.std.specs.Prelude.{◌≡◌, List, ◌++◌, ℕ, ◌+◌, ◌*◌, ◌<◌, ◌≤◌, Option}
use Rattle.terms.specs.Counted.{list}
use Rattle.image.specs.Stored.{FULL}
use Rattle.splice.specs.Onward.{From}
use Rattle.plan.specs.declared.Replacement.{Replacement}
use Rattle.plan.specs.Change.{Change}
use Rattle.plan.specs.Made.{change_of}
use Rattle.etzvanul.specs.declared.Cursor.{Cursor}
use Rattle.etzvanul.specs.Going.{Going, Measured}
use Rattle.etzvanul.specs.Orderly.{passed}

-- asked from a place where change k may be looked for, it gives g k; and where that ends, the next may be looked for
pub record Gives (l : List ℕ) (n : ℕ) (pre : ℕ → ℕ → Type 0) (post : ℕ → ℕ → Option Replacement → Type 0) (g : ℕ → Change) (place : ℕ → ℕ)
    : Type 0 where
  pub asked : (from k : ℕ) → k < n → From l from (place k) → pre from k
  pub given : (from k : ℕ) (r : Option Replacement) → k < n → From l from (place k) → post from k r → change_of r ≡ g k
  pub onward : (from k : ℕ) → k < n → From l from (place k) → From l (passed from (g k)) (place (k + 1))

-- n changes, and then others, are left of the copying
pub record Puts (l : List ℕ) (n : ℕ) (pre : ℕ → ℕ → Type 0) (post : ℕ → ℕ → Option Replacement → Type 0) (g : ℕ → Change) (place : ℕ → ℕ)
    (whole : List ℕ) (rest : List Change) (c : Cursor) (out : List ℕ) : Type 0 where
  pub gives : Gives l n pre post g place
  pub scan : From l c.from (place 0)
  pub going : Going whole l (list n g ++ rest) c.from c.to out

-- n changes, and then others, are left of the length: it is m, of an image of `old` bytes, and becomes `whole`
pub record Measures (l : List ℕ) (n : ℕ) (pre : ℕ → ℕ → Type 0) (post : ℕ → ℕ → Option Replacement → Type 0) (g : ℕ → Change) (place : ℕ → ℕ)
    (old whole most : ℕ) (rest : List Change) (at m : ℕ) : Type 0 where
  pub gives : Gives l n pre post g place
  pub scan : From l at (place 0)
  pub measured : Measured old whole most (list n g ++ rest) m
  pub small : most + 20 * n ≤ FULL + 2000
