pub mod Bytes
pub mod Choose
pub mod Counted
pub mod CountedLaws
pub mod Limits
pub mod Numbers
pub mod Refusals
