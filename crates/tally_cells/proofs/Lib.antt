pub mod Pushed
pub mod Few
pub mod Depths
pub mod Meant
pub mod FirstCells
