pub mod Crossings
pub mod Crews
mod Boards
mod Stores
mod Seats
mod SameHarts
mod Sites
