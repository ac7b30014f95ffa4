-- Words that are allocated, and what each call keeps.
pub mod CopiedAtOnce
pub mod GrowthRefused
pub mod KeptByCalls
pub mod MadeAfterZeroing
pub mod OldWordsStayZero
pub mod PlacesStay
pub mod RoomLeft
pub mod WordsTaken
