pub mod Works
pub mod Jobs
pub mod Groups
pub mod PieceParts
pub mod Bodies
pub mod Equal
pub mod EqualLaws
