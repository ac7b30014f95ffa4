-- Canonical words, and the checks that an object passes exactly if its words are canonical.
pub mod AcceptedExactly
pub mod AcceptedIfCanonical
pub mod CanonicalIfAccepted
pub mod Consecutive
pub mod ElementsStand
pub mod MeansWhatStands
pub mod OneMore
pub mod UsedWords
