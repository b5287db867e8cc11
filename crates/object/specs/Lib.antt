pub mod Tokens
pub mod Row
pub mod Soundness
pub mod Steps
