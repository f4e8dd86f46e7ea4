-- What holds of every table that accepted events make of the fresh one (document 01, "Laws over all accepted sequences from the fresh state", and
-- demand 3): all of it on one page, each sentence with its proof. The definitions that it speaks of are those that the code is proved to meet.
-- Assumes nothing.
use Rattle.std.specs.Prelude.{◌≡◌, true}
use Rattle.table.specs.Shape.{fits_table}
use Rattle.laws.proofs.Draining.LawEHolds.{law_e}
use Rattle.laws.proofs.Heap.Alive.{law_d}
use Rattle.laws.proofs.Heap.CollectSafe.{collect_exact, collect_safe}
use Rattle.laws.proofs.Heap.FreshNumber.{new_unnamed}
use Rattle.laws.specs.LawA.{LawA}
use Rattle.laws.specs.LawB.{LawB}
use Rattle.laws.specs.LawC.{LawC}
use Rattle.laws.specs.LawD.{LawD}
use Rattle.laws.specs.LawE.{LawE}
use Rattle.laws.proofs.NotTorn.{never_torn}
use Rattle.laws.specs.Sequence.{Always}
use Rattle.laws.specs.Sound.{NeverTorn, Sound}
use Rattle.laws.proofs.SoundKept.{always_sound, counted_of, sound_bridge, sound_counts}
use Rattle.laws.specs.Promises.{ClearMeansNobody, ReclaimsOnlyUnused, KeepsOnlyReached, NewNames}

-- ---- the laws

-- what every accepted event keeps
pub sound : Always Sound
sound = always_sound

-- the shape
pub shape : Always (λ t. fits_table t ≡ true)
shape es t run = (sound es t run).shape

-- A: RC of each entry is what hangs under it; where no entry stands that is nothing
pub law_a_holds : Always LawA
law_a_holds es t run = (sound es t run).law_a

-- B: the return counts of an object and its references on their way home
pub law_b_holds : Always LawB
law_b_holds es t run = (sound es t run).law_b

-- C: from every entry Parent leads to the owner in at most seven steps, and the table reports how many
pub law_c_holds : Always LawC
law_c_holds es t run = (sound es t run).law_c

-- D: every object reached from any root or any reference in the air, through fields on any node, is live
pub law_d_holds : Always LawD
law_d_holds es t run = let s = sound es t run in law_d t s.roots s.fields s.references

-- E: once nobody uses an object, its directory is clear after exactly the SETTLEs that were due, and until then one more is possible
pub law_e_holds : Always LawE
law_e_holds es t run = let s = sound es t run in law_e t s.formed (record { shape = s.shape; counted = counted_of s })

-- ---- no state that only a hand could make

-- no event is ever answered TORN, nor SHAPE
pub never_torn_nor_shape : Always NeverTorn
never_torn_nor_shape es t run = let s = sound es t run in never_torn s (sound_counts s)

-- ---- the insurer's question, in the words of specs/Promises.antt

-- a directory that is clear means that no other controller has an entry, and that no message of the object is in the air
pub clear_means_nobody : Always ClearMeansNobody
clear_means_nobody es t run o number clear = let nobody = sound_bridge (sound es t run) o number clear in (nobody.entries, nobody.messages)

-- an object that an accepted COLLECT reclaims was, before it, reached from no root and no reference in the air on any node
pub reclaims_only_unused : Always ReclaimsOnlyUnused
reclaims_only_unused es t run p o accepted = let s = sound es t run in collect_safe t p accepted s (sound_bridge s) o

-- and an object of node p that it leaves live was reached on p, from p's roots or from a directory that is not clear
pub keeps_only_reached : Always KeepsOnlyReached
keeps_only_reached es t run p o accepted = collect_exact t p accepted o

-- NEW never hands out a number that any root, field, entry or message still names
pub new_names : Always NewNames
new_names es t run p r accepted = let s = sound es t run in new_unnamed t p r accepted s (sound_bridge s)
