-- The walk that validates a value.
pub mod ExtentOfTheReading
pub mod ExtentWithinLimits
pub mod ValidatedBySteps
