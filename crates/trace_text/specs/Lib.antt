pub mod Run
pub mod Text
pub mod Buffer
pub mod Laws
