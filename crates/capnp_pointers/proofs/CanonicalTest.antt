-- The test for canonical form: its steps, and what its answers mean.
pub mod AnswersWithinLimits
pub mod EndsWithin
mod Examples
pub mod FoundBySteps
pub mod ReadsAsReading
pub mod ResultFromParts
pub mod TestedBySteps
pub mod VerdictOfObject
pub mod VerdictsOfParts
