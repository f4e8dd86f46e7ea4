-- What an image tells of a table, all that the plans ask: the image is that table's, and each thing asked of the bytes is what the table has.
-- Definitions only; assumes nothing.
use Rattle.std.specs.Prelude.{◌≡◌, true, List, ℕ, suc, ◌<◌, eqb}
use Rattle.terms.specs.Limits.{NODES, OBJECTS, PLACES}
use Rattle.heap.specs.Heap.{object_at, roots_at}
use Rattle.table.specs.declared.Table.{Table}
use Rattle.table.specs.Formed.{Formed}
use Rattle.table.specs.Shape.{fits_table}
use Rattle.table.specs.ShapeLaws.{Shaped}
use Rattle.table.specs.Table.{entry_at, is_empty, message_at}
use Rattle.image.specs.Find.{offset, found_from}
use Rattle.image.specs.Spots.{Spot, spot_position}
use Rattle.image.specs.Writer.{image}
use Rattle.splice.specs.Spread.{Within}
use Rattle.plan.specs.Plan.{object_of, roots_of, entry_of, message_of, message_spot}

pub record Told (l : List ℕ) (t : Table) : Type 0 where
  -- the table has the shape, and the bytes are its image
  pub formed : Formed t
  pub fits : fits_table t ≡ true
  pub shape : Shaped t
  pub image : image t ≡ l
  -- each thing is told
  pub objects : (o : ℕ) → o < OBJECTS → object_of l o ≡ object_at t.heap o
  pub roots : (p : ℕ) → p < NODES → roots_of l p ≡ roots_at t.heap p
  pub entries : (p o : ℕ) → p < NODES → o < OBJECTS → entry_of l p o ≡ entry_at t p o
  pub messages : (s : ℕ) → s < PLACES → message_of l s ≡ message_at t s
  pub empty : (s : ℕ) → s < PLACES → eqb (message_spot l s).at (message_spot l s).after ≡ is_empty (message_at t s)
  -- where its record begins and where the next one does; the event count is first
  pub begins : (s : Spot) → Within s → (found_from 0 (spot_position s) l).at ≡ offset (spot_position s) l
  pub ends : (s : Spot) → Within s → (found_from 0 (spot_position s) l).after ≡ offset (suc (spot_position s)) l
  pub first : offset 0 l ≡ 0
  pub second : offset 1 l ≡ 8
