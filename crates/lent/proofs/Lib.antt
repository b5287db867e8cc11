pub mod Spelt
pub mod Entries
pub mod Laws
pub mod Calls
