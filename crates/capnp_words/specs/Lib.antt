pub mod Meter
pub mod Names
pub mod PointerWords
pub mod Sizes
