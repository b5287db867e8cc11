pub mod Kind
pub mod Step
pub mod Fields
pub mod Laws
