-- The walk for the size of a value.
pub mod CountsTheValue
pub mod MeasuredBySteps
pub mod WordsPaid
