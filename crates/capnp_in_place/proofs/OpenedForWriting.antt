-- Structs and lists of structs that are opened for writing.
pub mod ListsOpened
pub mod StructsOpened
