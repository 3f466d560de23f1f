pub mod Mutex
pub mod Order
pub mod Shared
