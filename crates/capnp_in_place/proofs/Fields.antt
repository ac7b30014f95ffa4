-- Bits, numbers and data words, read and written in their places.
pub mod BitWritten
pub mod BitsRead
pub mod BitsReplaced
pub mod DigitReplaced
pub mod FieldWritten
