pub mod BufferLaws
pub mod ChainLaws
pub mod ChooseLaws
pub mod CountedLaws
pub mod ListLaws
pub mod SetLaws
pub mod ZipLaws
