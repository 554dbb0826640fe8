pub mod Over
pub mod Counting
pub mod Told
pub mod Promises
pub mod Witnesses
