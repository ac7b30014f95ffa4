-- The reading of a whole value, and the refusals of one.
pub mod ChildrenRead
pub mod ObjectsRead
pub mod ObjectsRefused
pub mod OutcomesAreTrue
pub mod RefusalsNamed
pub mod Shorthands
pub mod Unreadable
pub mod UnreadableIfRefused
pub mod ValueAgrees
pub mod ValueAsStated
pub mod WordsAdded
