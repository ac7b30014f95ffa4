pub mod Stepped
pub mod Mapped
pub mod Arrays
pub mod Stops
pub mod Told
pub mod Bounded
pub mod AtRoots
