pub mod Values
pub mod Sections
pub mod Outcomes
pub mod Lists
