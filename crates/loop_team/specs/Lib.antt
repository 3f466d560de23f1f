pub mod Hands
pub mod Looks
pub mod Rows
pub mod Stripes
pub mod Teams
