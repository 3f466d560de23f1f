pub mod Grammar
pub mod Nesting
pub mod Spelled
pub mod Parsing
