-- The new image: the old one with the changes of a plan, or of COLLECT, made on its bytes. Definitions only; assumes nothing.
use Rattle.std.specs.Prelude.{List, [], ◌∷◌, ◌++◌, ℕ, ◌-◌, take, drop}
use Rattle.image.specs.Find.{held_records}
use Rattle.image.specs.Writer.{bytes_of_all}
use Rattle.plan.specs.Change.{Change, Same, To, Plan, Sweep}
use Rattle.plan.specs.Plan.{changes_of}
use Rattle.plan.specs.Sweep.{sweep_changes}

-- the old image from a place on, with changes made further on
unfoldable pub spliced : ℕ → List Change → List ℕ → List ℕ
spliced from [] l = drop from l
spliced from (Same ∷ cs) l = spliced from cs l
spliced from (To at after a b held ∷ cs) l = take (at - from) (drop from l) ++ (bytes_of_all (held_records a b held) ++ spliced after cs l)

abbrev pub new_image : ℕ → Plan → List ℕ → List ℕ
new_image n plan l = spliced 0 (changes_of n plan) l

abbrev pub swept_image : ℕ → List ℕ → ℕ → Sweep → List ℕ
swept_image n l p s = spliced 0 (sweep_changes n l p s) l
