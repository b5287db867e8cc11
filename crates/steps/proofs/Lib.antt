pub mod LengthTable
pub mod Each
pub mod Fields
pub mod Reading
pub mod Writing
pub mod Laws
