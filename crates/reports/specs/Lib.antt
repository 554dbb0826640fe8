pub mod Clauses
pub mod Counts
pub mod Records
pub mod Said
pub mod Witnesses
