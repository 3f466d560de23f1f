pub mod Digest
pub mod Trees
pub mod Equal
pub mod EqualLaws
