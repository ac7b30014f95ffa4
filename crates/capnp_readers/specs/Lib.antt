pub mod Sections
pub mod Readers
pub mod Sizes
pub mod Calls
pub mod Checking
pub mod Values
