pub mod Row
pub mod Tokens
pub mod Steps
pub mod Soundness
