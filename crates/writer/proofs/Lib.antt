pub mod Behind
pub mod InOrder
pub mod OneByte
pub mod Sizes
