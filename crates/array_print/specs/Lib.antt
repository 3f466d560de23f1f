pub mod Texts
pub mod Spellings
pub mod Writable
pub mod Printers
