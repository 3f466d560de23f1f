pub mod Count
pub mod Words
pub mod PortView
pub mod Ledger
pub mod Plain
pub mod Locked
