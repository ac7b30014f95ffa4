pub mod MessageLemmas
mod Placed
pub mod WordsLent
pub mod WordsOver
