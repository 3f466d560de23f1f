pub mod Claims
pub mod Seats
