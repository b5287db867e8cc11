pub mod Facts
pub mod Ends
pub mod Arrived
pub mod Changed
pub mod Arrival
pub mod Exit
pub mod Sound
pub mod Changes
