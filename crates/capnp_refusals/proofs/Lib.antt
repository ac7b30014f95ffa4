pub mod Searched
pub mod RootSearched
pub mod Named
pub mod Sized
pub mod Commands
