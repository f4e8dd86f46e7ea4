pub mod Checking
pub mod Fronting
pub mod Reading
pub mod Scanning
