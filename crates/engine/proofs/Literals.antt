-- From the words of a body to the rules' clauses, literals and candidates.
pub mod Sound
pub mod Fitting
pub mod Places
pub mod Extensions
pub mod Offsets
pub mod Entered
pub mod Absent
pub mod Entries
