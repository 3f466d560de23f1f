pub mod Children
pub mod Flags
pub mod Overs
pub mod Backs
pub mod Sweeps
pub mod Skipped
