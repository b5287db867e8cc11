pub mod Num
pub mod Row
