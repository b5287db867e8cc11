pub mod Refusals
pub mod Judged
