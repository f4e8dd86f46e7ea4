pub mod Counting
pub mod Decimal
pub mod Lengths
pub mod NamedLine
pub mod Telling
pub mod Written
