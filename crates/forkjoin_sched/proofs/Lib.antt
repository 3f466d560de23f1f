pub mod PhaseBooks
mod RowSteps
mod Offered
mod Starts
pub mod PhaseStarts
mod Handed
mod SameJobs
