pub mod Slots
pub mod Pipes
pub mod Inside
pub mod Schedulers
pub mod Hands
