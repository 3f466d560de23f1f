-- Definitions for proofs only: how the walk marks the touches of pieces. No public clause uses them, so a
-- reader of the walk's results needs none of them.
pub mod Numbers
pub mod Touched
pub mod Rounds
pub mod Marks
