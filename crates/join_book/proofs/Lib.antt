pub mod BookLemmas
