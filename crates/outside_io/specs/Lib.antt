pub mod Failing
pub mod Feed
pub mod Outside
pub mod Shelf
pub mod Sure
pub mod Tray
