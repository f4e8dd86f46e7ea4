pub mod Bytes
pub mod Changed
pub mod Events
pub mod Kinds
pub mod Onward
pub mod Parts
pub mod Patched
pub mod Spread
