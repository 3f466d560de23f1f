pub mod Harts
pub mod Roam
