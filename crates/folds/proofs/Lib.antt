pub mod Folds
pub mod Table
pub mod Cases
pub mod Lowest
pub mod General
