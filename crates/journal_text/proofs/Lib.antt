pub mod Cuts
pub mod Numbers
pub mod Steps
pub mod Free
pub mod Rows
pub mod Spelled
