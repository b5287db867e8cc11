pub mod Sound
pub mod Changes
