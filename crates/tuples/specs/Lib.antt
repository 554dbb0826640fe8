pub mod Tuples
pub mod Promises
pub mod Witnesses
