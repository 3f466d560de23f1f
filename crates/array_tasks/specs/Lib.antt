pub mod Machines
pub mod Merging
pub mod Errors
pub mod Texts
