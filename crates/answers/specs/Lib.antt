pub mod Writing
pub mod Repeats
