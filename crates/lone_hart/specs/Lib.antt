pub mod Accounts
pub mod Sites
pub mod Served
