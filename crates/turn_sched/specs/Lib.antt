pub mod Ring
pub mod Rounds
pub mod Turns
