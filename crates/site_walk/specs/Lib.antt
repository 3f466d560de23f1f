pub mod Visits
pub mod Firsts
pub mod Outside
pub mod FirstOverlap
pub mod Laws
pub mod Inside
