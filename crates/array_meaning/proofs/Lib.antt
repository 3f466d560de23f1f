mod Examples
pub mod StepLemmas
pub mod ThreadLemmas
pub mod FrameLemmas
pub mod LastLemmas
pub mod OrderLemmas
pub mod MemberLemmas
pub mod OverlapLemmas
pub mod ClashCells
pub mod MergeLemmas
pub mod PlanLemmas
pub mod CellLemmas
pub mod InsideLemmas
pub mod BelowLemmas
pub mod KnownLemmas
pub mod EnteredLemmas
pub mod EnterAlone
pub mod NestingLemmas
