pub mod Tables
pub mod Refusals
pub mod Effect
pub mod Laws
