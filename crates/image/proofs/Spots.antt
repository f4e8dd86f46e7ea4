-- The spots of a table: each has one record or none in the image, at a position of its own. Assumes nothing.
use Rattle.std.specs.Prelude.{◌≡◌, refl, true, List, [], ℕ}
use Rattle.terms.specs.Limits.{owner}
use Rattle.entry.specs.declared.Entry.{Entry}
use Rattle.entry.specs.declared.Entry.TheVariants.{Absent, AtOwner, Elsewhere}
use Rattle.entry.specs.Fits.{fits_entry}
use Rattle.entry.specs.FitsLaws.{away}
use Rattle.image.specs.declared.RecordKind.{RecordKind}
use Rattle.image.specs.declared.RecordKind.TheVariants.{Count, Live, NodeRoots, Directory, Remote, Reference, Decrement, End, Unknown}
use Rattle.image.specs.Content.{number}
use Rattle.image.specs.Writer.{remote_record}
use Rattle.image.specs.Spots.{Spot, count, directory, message, object, remote, roots}

-- the spot that a record is about
abbrev pub spot_of : RecordKind → List ℕ → Spot
spot_of Count ns = count
spot_of Live ns = object (number ns 0)
spot_of NodeRoots ns = roots (number ns 0)
spot_of Directory ns = directory (number ns 0)
spot_of Remote ns = remote (number ns 0) (number ns 1)
spot_of Reference ns = message (number ns 0)
spot_of Decrement ns = message (number ns 0)
spot_of End ns = count
spot_of Unknown ns = count

-- no remote entry stands at the owner
pub remote_none : (p o : ℕ) (e : Entry) → p ≡ owner o → fits_entry p o e ≡ true → remote_record p o e ≡ []
remote_none p o Absent at fits = refl
remote_none p o (AtOwner d) at fits = refl
remote_none p o (Elsewhere r) at fits = absurd ((away p o r fits).elsewhere at)
