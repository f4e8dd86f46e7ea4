pub mod HeapLaws
pub mod Reached
pub mod Visit
