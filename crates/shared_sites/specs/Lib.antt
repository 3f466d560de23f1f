pub mod ClaimRows
pub mod Identities
pub mod References
pub mod Completed
pub mod HartLocals
pub mod Keeping
