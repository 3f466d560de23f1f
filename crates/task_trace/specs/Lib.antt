pub mod Nesting
pub mod Chrome
pub mod Keeping
