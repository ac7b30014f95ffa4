-- Texts and data: their bytes, written over others or lent.
pub mod BytesWritten
pub mod FirstBytesWritten
pub mod LastByte
pub mod LentBytes
pub mod WrittenInPlace
