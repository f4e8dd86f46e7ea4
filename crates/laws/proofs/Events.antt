-- An accepted event: none of its refusals applied, and it did what its kind says; so the shape is kept.

-- what "accepted" tells of a list of refusals, and what a refused event leaves
pub mod Answered
-- every accepted event did it
pub mod DidLaws
-- the one entry and the one place that it wrote
pub mod Writes
-- the acts on an entry keep its shape
pub mod EntryFits
-- and what they do to its Presence
pub mod Presence
-- every accepted event keeps the shape
pub mod KeepsShape
-- what each event keeps, every sequence keeps
pub mod Kept
