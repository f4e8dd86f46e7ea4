-- The same on the bytes of an image: a scan over records finds a position, and the image of a changed table is the old image with the bytes at some
-- positions replaced, copied once from front to end. What is said of it stands here, and why it holds in proofs/Bytes.antt. Assumes nothing.
use Rattle.std.specs.Prelude.{List, [], ◌∷◌, ◌++◌, ℕ, suc, take, drop}
use Rattle.image.specs.Find.{offset}
use Rattle.image.specs.Writer.{bytes_of_all}
use Rattle.splice.specs.Patched.{Change, place_in}

-- the bytes with the changes made: what comes before each is copied, what stands there is left out
unfoldable pub patched_bytes : List Change → List ℕ → List ℕ
patched_bytes [] l = l
patched_bytes (c ∷ cs) l = take (offset (place_in c) l) l ++ (bytes_of_all c.records ++ patched_bytes cs (drop (offset (suc (place_in c)) l) l))
