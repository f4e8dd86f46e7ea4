pub mod Collecting
pub mod Slices
