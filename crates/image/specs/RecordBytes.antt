-- The bytes of the records that tell one thing of the field, made by themselves (document 01, "Saved image"): what is asked of them, and how many
-- they are. What is said of it stands here, and why it holds in proofs/RecordBytesLaws.antt. Assumes nothing.
use Rattle.std.specs.Prelude.{◌≡◌, List, ◌≤◌, length, take}
use Rattle.image.specs.declared.RecordBytes.{RecordBytes}
use Rattle.image.specs.Records.{Record}
use Rattle.image.specs.Writer.{bytes_of_all}

-- the bytes of these records stand at the front, and no others count
pub record Tells (rs : List Record) (r : RecordBytes) : Type 0 where
  pub room : length r.bytes ≡ 20
  pub small : r.length ≤ 20
  pub size : r.length ≡ length (bytes_of_all rs)
  pub front : take r.length r.bytes ≡ bytes_of_all rs
