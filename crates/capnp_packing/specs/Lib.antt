pub mod Names
pub mod Packing
pub mod Pieces
pub mod Sending
pub mod Unpacking
pub mod Words
