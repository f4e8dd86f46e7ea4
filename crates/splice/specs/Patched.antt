-- Records with something else at some positions: where two tables differ at a few spots, the records of one are those of the other with these
-- replaced. What is said of it stands here, and why it holds in proofs/Patched.antt. Assumes nothing.
use Rattle.std.specs.Prelude.{◌≡◌}
use mathlib.Core.List.{List, [], ◌∷◌}
use Prim.Native.Nat.{ℕ, suc, ◌≤◌}
use Rattle.table.specs.declared.Table.{Table}
use Rattle.image.specs.Records.{Record}
use Rattle.image.specs.Spots.{Spot, spot_position, record_at}
use Rattle.splice.specs.Spread.{Within}

-- what is to stand at a spot
pub record Change : Type 0 where
  pub spot : Spot
  pub records : List Record

abbrev pub change : Spot → List Record → Change
change s rs = record { spot = s; records = rs }

-- the position of the spot
abbrev pub place_in : Change → ℕ
place_in c = spot_position c.spot

-- changes at spots of a field from position m on, in the order of the image
abbrev pub Ascends : ℕ → List Change → Type 0
Ascends m [] = Unit
Ascends m (c ∷ cs) = (m ≤ place_in c) × (Within c.spot × Ascends (suc (place_in c)) cs)

-- the spot stands at no position of these
abbrev pub Outside : List Change → Spot → Type 0
Outside [] x = Unit
Outside (c ∷ cs) x = (spot_position x ≡ place_in c → ⊥) × Outside cs x

-- the table has what the changes say
abbrev pub Stands : Table → List Change → Type 0
Stands u [] = Unit
Stands u (c ∷ cs) = (record_at u c.spot ≡ c.records) × Stands u cs

-- u has what the changes say, and elsewhere what t has
pub record Differs (cs : List Change) (t u : Table) : Type 0 where
  pub ascends : Ascends 0 cs
  pub stands : Stands u cs
  pub same : (x : Spot) → Outside cs x → record_at u x ≡ record_at t x
