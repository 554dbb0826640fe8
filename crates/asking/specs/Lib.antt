pub mod Report
pub mod Program
pub mod Promises
pub mod Cases
