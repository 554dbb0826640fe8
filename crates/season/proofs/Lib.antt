pub mod Results
pub mod Questions
pub mod Memory
pub mod Runs
pub mod Tallying
pub mod Calls
pub mod Promises
pub mod Cases
