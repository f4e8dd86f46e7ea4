pub mod Fresh
pub mod Planning
pub mod Refusals
pub mod Slices
pub mod Sweeping
