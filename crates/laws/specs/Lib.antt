-- What holds of every sequence of accepted events, in reading order: what is said stands here, why it holds in proofs/.

-- the insurer's question; proofs/Promises.antt has all of it on one page
pub mod Promises
-- ---- what is said

-- sequences of accepted events
pub mod Sequence
-- laws A to E
pub mod LawA
pub mod LawB
pub mod LawC
pub mod LawD
pub mod LawE
-- what every accepted event keeps, and the same as a test that computes
pub mod Sound
pub mod SoundTest
-- ---- what the proofs speak of

-- what an accepted event did
pub mod Events
-- one object's entries and messages
pub mod Counting
-- what nodes hold
pub mod Heap
-- what the return count adds to RC
pub mod OnTheWayHome
