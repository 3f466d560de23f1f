pub mod Crossings
mod TeamLemmas
mod HandLemmas
mod StripeLemmas
