-- clear means nobody, stated and turned round
pub mod Nobody
-- where COLLECT starts and what it reclaims
pub mod Starts
-- NEW hands out no number that is still named
pub mod FreshNumber
