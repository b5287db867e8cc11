pub mod Decides
