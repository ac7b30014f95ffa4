pub mod Three
pub mod CommandLemmas
pub mod LineLemmas
pub mod WritingLemmas
pub mod RunLemmas
pub mod CheckLemmas
pub mod FrameLines
pub mod FrameCommands
