pub mod Allocations
pub mod Checks
pub mod Limits
pub mod Taking
pub mod View
pub mod Written
