-- every accepted event but COLLECT
pub mod Link
-- COLLECT, and so every accepted event
pub mod LinkCollect
-- what single entries and messages add to laws A and B
pub mod Counts
-- what an act does to the counts
pub mod Effect
-- acts that leave an entry's weight alone
pub mod Passings
-- every act
pub mod Effects
-- they are kept
pub mod LawfulKept
-- law C and the ranks say the same
pub mod Chains
-- they are kept
pub mod WithinKept
-- laws and limits of a whole table
pub mod CountsKept
-- clear means nobody
pub mod ClearLaws
-- no act is refused for its counts
pub mod InRange
