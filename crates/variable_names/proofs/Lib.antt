pub mod Walks
pub mod Clauses
pub mod Named
pub mod Witnesses
