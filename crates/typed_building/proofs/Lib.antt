pub mod Sets
pub mod Held
pub mod Elements
pub mod Memory
pub mod Means
pub mod Copied
pub mod Opened
pub mod Outcomes
