-- Definitions for proofs only: how the walk marks the touches of members, and what it keeps of the earlier phases; and the
-- bounds of members without a walk. No public clause uses them, so a reader of crossings needs none of them.
pub mod Members
pub mod Owners
pub mod Tables
pub mod Teams
pub mod Cells
pub mod Marks
pub mod Stretches
