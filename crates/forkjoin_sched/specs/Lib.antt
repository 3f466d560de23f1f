pub mod Pools
pub mod Laws
pub mod Shared
pub mod Hands
pub mod HandCalls
pub mod Batches
pub mod Rests
