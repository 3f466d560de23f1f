pub mod Trees
pub mod Capped
