pub mod Finds
pub mod Tasks
pub mod Visits
