-- The checker: one law for each outcome, with premises as the code has them.
pub mod Lineage
pub mod Walks
pub mod Steps
pub mod Run
