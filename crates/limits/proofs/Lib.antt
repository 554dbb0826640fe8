pub mod Counting
pub mod Limiting
pub mod Cutting
pub mod Finding
pub mod Telling
pub mod Promises
pub mod Witnesses
