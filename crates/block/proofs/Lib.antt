pub mod Tables
pub mod Verdicts
