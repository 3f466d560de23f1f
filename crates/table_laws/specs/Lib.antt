pub mod Planned
pub mod InOrder
pub mod Agreement
pub mod Laws
pub mod Example
