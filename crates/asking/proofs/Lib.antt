pub mod Lines
pub mod Given
pub mod Fitting
pub mod Disjuncts
pub mod Writes
pub mod Examples
