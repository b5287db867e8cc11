pub mod Example
pub mod Tight
