pub mod Terms
pub mod Clauses
pub mod Short
pub mod Walks
pub mod Calls
pub mod Examples
