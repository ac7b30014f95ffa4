pub mod Counting
pub mod Leading
pub mod Taken
pub mod SpotsMore
pub mod Steps
pub mod Whole
