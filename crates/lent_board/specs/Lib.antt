pub mod Amounts
pub mod Plays
pub mod Of
pub mod Calls
pub mod Seats
pub mod PortViews
