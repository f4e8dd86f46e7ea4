pub mod Buffer
pub mod Next
pub mod Ran
pub mod RanLaws
pub mod Run
pub mod Text
