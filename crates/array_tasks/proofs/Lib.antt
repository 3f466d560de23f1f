pub mod Merged
pub mod Moved
pub mod Bodies
pub mod Reports
