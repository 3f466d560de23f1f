pub mod OverlayLemmas
pub mod PageLemmas
pub mod ScopeLemmas
pub mod TraceLemmas
pub mod StartLemmas
pub mod LayoutLemmas
mod MarkLemmas
pub mod CopyLemmas
pub mod OverLemmas
mod FixedLemmas
mod ActLemmas
