mod Sums
mod Steps
mod Seats
pub mod Callers
