-- Law E: what is due of an object that nobody uses falls by one with each SETTLE of it, and until it is nought one more is possible.

-- one change
pub mod Drained
-- a sequence
pub mod Along
-- one more is always possible
pub mod OneMore
-- the law
pub mod LawEHolds
