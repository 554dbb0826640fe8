pub mod Places
pub mod State
pub mod Good
pub mod Thorough
