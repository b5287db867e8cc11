pub mod Field
mod Rows
