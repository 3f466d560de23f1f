pub mod Failing
pub mod Kinds
pub mod Passing
