pub mod Account
pub mod Rows
pub mod Lines
pub mod Calls
