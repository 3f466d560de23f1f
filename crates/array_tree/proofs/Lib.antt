pub mod Views
pub mod Compared
mod Bytes
