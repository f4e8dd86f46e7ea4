-- The counting's side: an event is one act on each object, each act is balanced, so laws A, B and C are kept and counts stay in range.

-- the acts on one object
pub mod Change
-- an event and its act, linked
pub mod Linked
-- laws A, B and C of one object, as an instance of crate counting
pub mod Lawful
-- limits of the counts of one object
pub mod Within
