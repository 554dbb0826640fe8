pub mod Dropping
pub mod Rounds
pub mod Call
pub mod Walking
pub mod Narrowly
pub mod Promises
