pub mod Names
pub mod Collected
