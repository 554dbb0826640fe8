pub mod Bytes
pub mod Listed
pub mod Pieces
pub mod Records
pub mod Rows
