pub mod Steps
pub mod Reading
pub mod Promises
