-- What only the parser's own contracts and the proofs need. No public clause uses these definitions, so a reader of the
-- public contracts needs none of them.
pub mod FirstToken
pub mod Machine
pub mod Reading
pub mod Scan
