-- An accepted event: none of its refusals applied, and it did what its kind says; so the shape is kept.

-- what "accepted" tells of a list of refusals, and what a refused event leaves
pub mod Answered
-- what each kind did
pub mod Did
-- every accepted event did it
pub mod DidLaws
