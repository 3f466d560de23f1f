pub mod ClaimRows
pub mod HartLocals
pub mod Crossings
mod Keeping
