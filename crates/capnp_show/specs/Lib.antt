pub mod Show
pub mod Line
pub mod Numbers
pub mod Adding
pub mod Shown
pub mod ShownParts
pub mod Compared
