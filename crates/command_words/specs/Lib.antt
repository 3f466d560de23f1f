pub mod App
pub mod Parsed
pub mod Form
pub mod Parts
