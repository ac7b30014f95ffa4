-- The reading of one object, of any kind or of an expected one.
pub mod EnteredBySteps
pub mod ExpectedAsStated
pub mod ExpectedBySteps
pub mod LastByteOfText
pub mod PartsMeant
pub mod ReadAsStated
pub mod ReadInOneWay
pub mod ShapeOfWord
pub mod TypeAsStated
