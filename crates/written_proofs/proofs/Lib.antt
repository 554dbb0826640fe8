pub mod Names
pub mod Pieces
pub mod Written
pub mod Numerals
pub mod ReadBack
pub mod Examples
