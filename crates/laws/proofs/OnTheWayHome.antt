-- What the return count adds to RC (document 01, laws A, B and C): where the directory's RC is 0, its MsgCtr is exactly the number of references
-- on their way home, of which RC knows nothing. Assumes nothing.
use Rattle.std.specs.Prelude.{◌≡◌, true}
use Rattle.counting.proofs.Homeward.{returns-homeward}
use Rattle.table.specs.declared.Table.{Table}
use Rattle.table.specs.Shape.{fits_table}
use Rattle.laws.proofs.Counting.Chains.{lawful_table}
use Rattle.laws.proofs.Counting.ClearLaws.{share_shaped}
use Rattle.laws.specs.Counting.Lawful.{rules, share}
use Rattle.laws.specs.LawA.{LawA}
use Rattle.laws.specs.LawB.{LawB}
use Rattle.laws.specs.LawC.{LawC}
use Rattle.laws.specs.Sequence.{Always}
use Rattle.laws.proofs.SoundKept.{always_sound}
use Rattle.laws.specs.OnTheWayHome.{CountsTheWayHome}

-- so it is in every table of the right shape where laws A, B and C hold
pub counts_the_way_home : (t : Table) → fits_table t ≡ true → LawA t → LawB t → LawC t → CountsTheWayHome t
counts_the_way_home t shape a b c o lo =
    returns-homeward (rules o) (share t o) (lawful_table t shape a b c o lo) (share_shaped t o shape lo)

-- and in every table that accepted events make
pub always_counts_the_way_home : Always CountsTheWayHome
always_counts_the_way_home es t run =
    let sound = always_sound es t run in counts_the_way_home t sound.shape sound.law_a sound.law_b sound.law_c
