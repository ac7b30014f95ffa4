-- Pointers that are moved: one, one after the other, row after row.
pub mod MovedByRows
pub mod MovedInTurn
pub mod OneMoved
pub mod PadsZeroed
pub mod PointerWritten
pub mod RewrittenInTurn
pub mod RoomForPads
pub mod SameObjectSameValue
pub mod SingleIntervals
