pub mod FrameLemmas
pub mod NumberLemmas
pub mod CallLemmas
pub mod PartSizeLemmas
pub mod PartLemmas
pub mod ExtentLemmas
pub mod PackedLemmas
pub mod StoringLemmas
