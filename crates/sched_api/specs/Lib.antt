pub mod Calls
pub mod Wishes
pub mod Agenda
