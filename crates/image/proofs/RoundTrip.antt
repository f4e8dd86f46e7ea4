-- The saved image and back: the image of a formed table in shape is accepted and gives that table, and an accepted image is the image of the
-- table that it gives. Assumes nothing.
use Rattle.std.specs.Prelude.{◌≡◌, true, List, ℕ, ◌≤◌, length}
use Rattle.std.proofs.Common.{sym, ap, subst, ◌∙◌}
use Rattle.terms.specs.Numbers.{ACCEPTED}
use Rattle.table.specs.declared.Table.{Table}
use Rattle.table.specs.Formed.{Formed}
use Rattle.table.specs.Fresh.{fresh_good}
use Rattle.table.specs.Good.{Good, good_formed, good_shape}
use Rattle.table.specs.Shape.{fits_table}
use Rattle.table.specs.Table.{fresh_table}
use Rattle.image.specs.Reader.{Loaded}
use Rattle.image.specs.BytesLaws.{AreBytes}
use Rattle.image.specs.Order.{first_turn}
use Rattle.image.specs.Reader.{read}
use Rattle.image.proofs.ReadLaws.{reads_from, length-bytes_of_all, read_off}
use Rattle.image.proofs.Unique.{reads_same, reads_good, ready_first}
use Rattle.image.proofs.Sizes.{image_size}
use Rattle.image.specs.Writer.{records_of, bytes_of_all, image}
use Rattle.image.proofs.SectionsRead.{reads_records}

-- the image of a formed table in shape is accepted and gives that table
pub read-image : (t : Table) → Formed t → fits_table t ≡ true → read (image t) ≡ record { answer = ACCEPTED; table = t }
unfolding read image
read-image t formed fits = reads_from (reads_records t formed fits) (length (image t)) (length-bytes_of_all (records_of t))

-- ---- and back

-- what an accepted read gives is formed and in shape
pub read_good : (l : List ℕ) → AreBytes l → (read l).answer ≡ ACCEPTED → Good (read l).table
unfolding read
read_good l are e = reads_good (read_off (length l) first_turn fresh_table l are e).2 fresh_good

-- an accepted image is the image of the table that it gives
pub image-read : (l : List ℕ) → AreBytes l → (read l).answer ≡ ACCEPTED → image (read l).table ≡ l
unfolding read image
image-read l are e =
    let off = read_off (length l) first_turn fresh_table l are e in
    let good = read_good l are e in
    let again = reads_records (read l).table (good_formed good) (good_shape good) in
    ap bytes_of_all (reads_same again off.2 fresh_good ready_first) ∙ off.1

-- ---- what follows

-- formed tables in shape with one image are equal
pub image_injective : (t u : Table) → Formed t → Formed u → fits_table t ≡ true → fits_table u ≡ true → image t ≡ image u → t ≡ u
image_injective t u ft fu st su e =
    ap (λ (l : Loaded). l.table) (sym (read-image t ft st) ∙ ap read e ∙ read-image u fu su)

-- accepted images that give one table are equal
pub accepted_injective : (l r : List ℕ) → AreBytes l → AreBytes r → (read l).answer ≡ ACCEPTED → (read r).answer ≡ ACCEPTED
    → (read l).table ≡ (read r).table → l ≡ r
accepted_injective l r bl br al ar e = sym (image-read l bl al) ∙ ap image e ∙ image-read r br ar

-- an accepted image has 116 to 11,508 bytes
pub accepted_size : (l : List ℕ) → AreBytes l → (read l).answer ≡ ACCEPTED → (116 ≤ length l) × (length l ≤ 11508)
accepted_size l are e =
    subst (λ (x : List ℕ). (116 ≤ length x) × (length x ≤ 11508)) (image-read l are e)
    (image_size (read l).table (good_shape (read_good l are e)))
