-- The heap's side: whatever a node holds is live, and its own or in use there. Of the counting it takes only that clear means nobody.

-- what it means to hold well
pub mod Holding
-- law D follows
pub mod Alive
-- clear means nobody, stated and turned round
pub mod Nobody
-- one reason for most events
pub mod Growing
-- NEW, MOVE, CLEAR, LOAD, STORE
pub mod HeapKeeps
-- SEND, RECEIVE, SETTLE, DROP
pub mod AirKeeps
-- where COLLECT starts and what it reclaims
pub mod Starts
-- what stands where after it
pub mod Collected
-- it reaches all of its node that anybody uses
pub mod UsedKept
-- so it keeps what is held well
pub mod CollectKeeps
-- every accepted event does
pub mod HeldAfter
-- and in the fresh table nothing is held
pub mod FreshHeld
-- COLLECT reclaims only what nobody uses
pub mod CollectSafe
-- NEW hands out no number that is still named
pub mod FreshNumber
-- no event meets a torn heap
pub mod WholeHeap
