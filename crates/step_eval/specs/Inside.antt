-- Definitions for proofs only: how a machine keeps its remaining works. No public clause uses them, so a reader of a machine's
-- calls needs none of them.
pub mod Codes
pub mod Computed
pub mod Frames
pub mod Parts
