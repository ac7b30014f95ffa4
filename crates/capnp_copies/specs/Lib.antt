pub mod Copied
pub mod Forms
pub mod Widths
pub mod Originals
pub mod Rooms
pub mod Changes
pub mod Costs
pub mod Growth
