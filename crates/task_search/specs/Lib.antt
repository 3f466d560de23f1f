pub mod Preorder
pub mod Searches
