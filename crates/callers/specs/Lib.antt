pub mod Meaning
pub mod Truly
