pub mod Arguments
pub mod Lines
pub mod Messages
pub mod Reading
pub mod Answers
pub mod Refusals
pub mod Runs
pub mod Commands
