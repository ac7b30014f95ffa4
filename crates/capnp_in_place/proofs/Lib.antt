pub mod ByteLists
pub mod Fields
pub mod MovedPointers
pub mod OpenedForWriting
pub mod Room
pub mod WiderObjects
