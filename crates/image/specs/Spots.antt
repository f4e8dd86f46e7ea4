-- The spots of a table: each has one record or none in the image, at a position of its own. What is said of it stands here, and why it holds in
-- proofs/Spots.antt. Assumes nothing.
use Rattle.std.specs.Prelude.{List, [], ◌∷◌, ℕ, ◌+◌, ◌*◌}
use Rattle.terms.specs.Limits.{owner}
use Rattle.table.specs.declared.Table.{Table}
use Rattle.table.specs.Table.{entry_at, message_at}
use Rattle.image.specs.declared.RecordKind.TheVariants.{Count}
use Rattle.image.specs.Order.{position}
use Rattle.image.specs.Records.{Record, row}
use Rattle.image.specs.Writer.{object_record, roots_record, directory_record, remote_record, message_record}

pub data Spot : Type 0 where
  count : Spot
  object : ℕ → Spot
  roots : ℕ → Spot
  directory : ℕ → Spot
  remote : ℕ → ℕ → Spot
  message : ℕ → Spot

-- its position
abbrev pub spot_position : Spot → ℕ
spot_position count = position 0 0
spot_position (object o) = position 1 o
spot_position (roots p) = position 2 p
spot_position (directory o) = position 3 o
spot_position (remote p o) = position 4 (256 * p + o)
spot_position (message s) = position 5 s

-- the record that the table has there, or none
abbrev pub record_at : Table → Spot → List Record
record_at t count = row Count (t.count ∷ []) ∷ []
record_at t (object o) = object_record t o
record_at t (roots p) = roots_record t p
record_at t (directory o) = directory_record o (entry_at t (owner o) o)
record_at t (remote p o) = remote_record p o (entry_at t p o)
record_at t (message s) = message_record s (message_at t s)
