pub mod Records
pub mod Desk
pub mod Promises
pub mod Clauses
pub mod Asking
