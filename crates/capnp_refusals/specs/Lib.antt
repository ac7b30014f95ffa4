pub mod Search
pub mod RefusedPointers
