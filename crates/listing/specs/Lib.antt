pub mod Behind
pub mod Lines
pub mod Call
pub mod Promises
pub mod Counting
pub mod ListingCases
