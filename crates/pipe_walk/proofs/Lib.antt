pub mod MemberLemmas
pub mod OwnerLemmas
pub mod PieceLemmas
pub mod CellLemmas
pub mod PhaseLemmas
pub mod SiteLemmas
pub mod FitLemmas
pub mod StretchLemmas
