pub mod Defaults
pub mod Elements
pub mod Root
pub mod Outcomes
pub mod Sections
pub mod Left
pub mod Lists
