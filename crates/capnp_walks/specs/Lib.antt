pub mod Listing
pub mod Walks
pub mod Figures
