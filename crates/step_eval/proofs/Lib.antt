pub mod FrameLemmas
pub mod LeftLemmas
pub mod WriteLemmas
pub mod FitParts
pub mod FitMoves
pub mod MoveLemmas
pub mod PieceLemmas
mod PlaceLemmas
pub mod NestParts
pub mod NestLemmas
pub mod HandLemmas
pub mod MachineLemmas
pub mod ShapeLemmas
pub mod PhaseLemmas
pub mod ComputeLemmas
mod GoLemmas
