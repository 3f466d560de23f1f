pub mod Intervals
pub mod Ranges
pub mod Touches
pub mod Pieces
