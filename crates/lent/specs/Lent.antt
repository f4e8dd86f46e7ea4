-- Settling offered on a single entry that is lent, to be amended where it stands (document 01, the end of "Events"): 1 if a number is out
-- of range, 12 if a count would leave it, the entry then unchanged. Definitions only; assumes nothing.
use Rattle.std.specs.Prelude.{Bool, true, not, [], ◌∷◌, ℕ}
use Rattle.terms.specs.Choose.{◌and◌, ◌when◌, answered}
use Rattle.terms.specs.Numbers.{SHAPE, TORN}
use Rattle.entry.specs.declared.ReturnCount.{ReturnCount}
use Rattle.entry.specs.declared.Weight.{Weight}
use Rattle.entry.specs.declared.Entry.{Entry}
use Rattle.entry.specs.declared.Entry.TheVariants.{Absent, AtOwner, Elsewhere}
use Rattle.entry.specs.AtNode.{EntryAct}
use Rattle.entry.specs.Fits.{fits_returns, fits_weight, fits_directory, fits_remote}
use Rattle.entry.specs.AtNode.{settled, refuses}

-- an entry's own numbers are in their ranges. Its node isn't known here, so that Parent is another node can't be asked
unfoldable pub fits_alone : Entry → Bool
fits_alone Absent = true
fits_alone (AtOwner d) = fits_directory d
fits_alone (Elsewhere e) = fits_remote e

-- the decrement's numbers are in their ranges, as in a message
abbrev pub fits_decrement : ReturnCount → Weight → Bool
fits_decrement m n = fits_returns m and fits_weight n

-- refused: the entry as it was
abbrev pub unchanged : Entry → ℕ → EntryAct
unchanged e number = record { refusal = number; entry = e }

-- a decrement is settled on a lent entry: the number handed back, and the entry that then stands
unfoldable pub lent : Entry → ReturnCount → Weight → EntryAct
lent e m n =
    answered (unchanged e)
    ((SHAPE when not (fits_alone e and fits_decrement m n)) ∷ (TORN when refuses (settled m n e)) ∷ [])
    (settled m n e)
