pub mod LaneLemmas
pub mod LittleEndian
pub mod Masks
pub mod PointerFields
pub mod WordsPut
