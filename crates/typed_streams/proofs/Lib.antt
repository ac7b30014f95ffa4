pub mod ConformingLemmas
pub mod PackedLemmas
pub mod RawLemmas
pub mod WalkLemmas
