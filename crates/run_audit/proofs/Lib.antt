pub mod Comparing
pub mod Within
pub mod Cutting
pub mod Pieces
pub mod Found
