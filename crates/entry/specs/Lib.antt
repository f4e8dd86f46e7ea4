pub mod Acts
pub mod AtNode
pub mod Entry
pub mod Fits
pub mod FitsLaws
