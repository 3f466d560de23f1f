-- Definitions for the tests' contracts.
pub mod Family
