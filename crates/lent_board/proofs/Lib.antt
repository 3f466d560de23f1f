pub mod Digits
pub mod Allowed
pub mod Split
pub mod Gathers
pub mod Ports
pub mod Names
pub mod Makers
