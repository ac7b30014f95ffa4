pub mod There
pub mod Members
pub mod Elements
pub mod Slots
pub mod Copied
pub mod Opened
pub mod Signed
