pub mod Cutting
pub mod Parsed
pub mod Found
pub mod Refusing
pub mod Showing
pub mod LawsHold
pub mod Turns
pub mod Reading
