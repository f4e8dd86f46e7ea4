-- The records of a table, spot by spot in the order of the image (document 01, "Order"): what is proved of a list of rising spots holds of every
-- table. What is said of it stands here, and why it holds in proofs/Spread.antt. Assumes nothing.
use mathlib.Core.List.{List, ◌∷◌, ◌++◌}
use Prim.Native.Nat.{◌<◌}
use Rattle.terms.specs.Counted.{list, gather}
use Rattle.terms.specs.Limits.{NODES, OBJECTS, PLACES}
use Rattle.image.specs.Spots.{Spot, count, object, roots, directory, remote, message}

-- all spots, in the order of the image
unfoldable pub spots : List Spot
spots =
    count
    ∷ (list OBJECTS object ++ (list NODES roots ++ (list OBJECTS directory ++ (gather NODES (λ p. list OBJECTS (remote p)) ++ list PLACES message))))

-- ---- the spots of a field

-- the spot lies within the limits of a field
abbrev pub Within : Spot → Type 0
Within count = Unit
Within (object o) = o < OBJECTS
Within (roots p) = p < NODES
Within (directory o) = o < OBJECTS
Within (remote p o) = (p < NODES) × (o < OBJECTS)
Within (message s) = s < PLACES
