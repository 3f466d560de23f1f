pub mod Openings
pub mod Facts
pub mod Harts
pub mod Journals
pub mod Outcomes
