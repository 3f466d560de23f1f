pub mod Back
pub mod Children
pub mod Visits
pub mod Skips
pub mod Sweeps
pub mod Shared
