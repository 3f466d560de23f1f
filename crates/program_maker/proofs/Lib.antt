pub mod Writing
pub mod Lengths
