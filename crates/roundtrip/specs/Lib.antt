pub mod Renumbered
pub mod Written
pub mod Promises
