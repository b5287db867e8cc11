pub mod Walk
pub mod Lend2
pub mod Lend
pub mod Lend3
