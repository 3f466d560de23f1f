pub mod Literals
pub mod Lexemes
pub mod Fronts
