pub mod Same
pub mod Notes
pub mod Looking
pub mod Counts
pub mod Stems
pub mod Marking
pub mod Using
