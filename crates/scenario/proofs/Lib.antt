pub mod LineLaws
pub mod Passes
pub mod MeaningLaws
