pub mod Facts
pub mod Values
pub mod Capabilities
pub mod Refusals
