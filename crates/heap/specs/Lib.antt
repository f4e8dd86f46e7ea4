pub mod Heap
pub mod Visit
pub mod Walk
