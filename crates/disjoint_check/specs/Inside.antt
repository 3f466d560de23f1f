-- Definitions for proofs only: how the checker goes through a text. No public clause uses them, so a reader of what is accepted
-- needs none of them.
pub mod Around
pub mod Unrolled
