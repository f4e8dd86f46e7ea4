pub mod Bridge
pub mod Homeward
pub mod Kept
pub mod Leaf
pub mod Turned
pub mod Under
