pub mod Words
pub mod Homes
pub mod Single
pub mod Ledgers
pub mod Views
