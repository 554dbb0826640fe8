pub mod Verdicts
pub mod Unreadable
