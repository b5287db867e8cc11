pub mod Strikes
pub mod Corners
pub mod Unreached
