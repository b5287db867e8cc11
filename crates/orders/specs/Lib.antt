pub mod Due
pub mod Finishes
pub mod Orders
