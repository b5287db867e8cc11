pub mod Balance
pub mod Clear
pub mod Row
pub mod Tests
pub mod Step
pub mod Finishes
pub mod Due
pub mod Orders
