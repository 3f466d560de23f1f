mod Totals
mod Orders
mod Moves
mod Sights
mod Places
mod Makes
mod Settles
pub mod Callers
