pub mod Lent
pub mod LentArenaLemmas
pub mod LentPlace
