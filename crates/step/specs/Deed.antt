-- What an event did. Its value and the summary of a run are read from this, and from nothing else. Definitions only; assumes nothing.
use Rattle.std.specs.Prelude.{ℕ}
use Rattle.step.specs.declared.Deed as told
use Rattle.step.specs.declared.Deed.TheVariants as of

pub data Deed : Type 0 where
  -- refused: nothing
  Refused : Deed
  -- roots and fields only: MOVE, CLEAR, LOAD, STORE
  Arranged : Deed
  -- NEW: the object
  Born : ℕ → Deed
  -- SEND: the place of the reference
  Sent : ℕ → Deed
  -- RECEIVE at the owner
  CameHome : Deed
  -- RECEIVE where no entry stood: one was made
  Made : Deed
  -- RECEIVE from the Parent: merged into RefWeight
  Merged : Deed
  -- RECEIVE from another sender: answered with a decrement in this place
  Answered : ℕ → Deed
  -- SETTLE
  Settled : Deed
  -- COLLECT: how many objects were reclaimed
  Collected : ℕ → Deed
  -- DROP of a remote entry: the place of its decrement
  Dropped : ℕ → Deed
  -- DROP of a directory
  Cleared : Deed

-- the deed that the code hands back where it refuses nothing
abbrev pub deed_of : told.Deed → Deed
deed_of of.Arranged = Arranged
deed_of (of.Born object) = Born object
deed_of (of.Sent place) = Sent place
deed_of of.CameHome = CameHome
deed_of of.Made = Made
deed_of of.Merged = Merged
deed_of (of.Answered place) = Answered place
deed_of of.Settled = Settled
deed_of (of.Collected objects) = Collected objects
deed_of (of.Dropped place) = Dropped place
deed_of of.Cleared = Cleared
