pub mod Walking
pub mod Promises
pub mod Wordings
pub mod Witnesses
