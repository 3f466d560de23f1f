pub mod FirstCrossing
pub mod Inside
