pub mod Counts
pub mod Landings
pub mod Marks
pub mod Spots
pub mod Walks
