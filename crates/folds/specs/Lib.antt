pub mod Folds
pub mod Table
pub mod Lowest
