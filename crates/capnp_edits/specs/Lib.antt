pub mod Paths
pub mod Tasks
pub mod Edits
pub mod Fitting
pub mod Sources
pub mod Steps
