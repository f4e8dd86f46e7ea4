-- What holds of every sequence of accepted events, in reading order: why it holds. What is said stands in specs/.

-- all of it on one page
pub mod Promises
-- the test that computes says the same as Sound
pub mod SoundTestLaws
-- ---- why it holds

-- what an accepted event did, and that it keeps the shape
pub mod Events
-- one object's entries and messages: laws A, B and C, and clear means nobody
pub mod Counting
-- what nodes hold: law D, COLLECT and NEW
pub mod Heap
-- law E
pub mod Draining
-- ---- put together

-- no event is TORN
pub mod NotTorn
-- every accepted event keeps Sound
pub mod SoundKept
-- what the return count adds to RC
pub mod OnTheWayHome
