-- Pointers that are followed: where they lead, and by which steps.
pub mod DefaultSegments
pub mod FaultlessWhereMeant
pub mod FollowedBySteps
pub mod LeadsWhereFollowed
pub mod NearByWord
