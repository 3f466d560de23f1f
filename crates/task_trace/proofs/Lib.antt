pub mod Nested
pub mod Growing
pub mod Members
