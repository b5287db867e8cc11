pub mod Chains
pub mod Laws
pub mod Kept
pub mod Done
