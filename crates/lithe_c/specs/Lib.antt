pub mod Answers
pub mod Hart
pub mod Making
pub mod Status
