pub mod Index
pub mod Shown
pub mod Firsts
pub mod Clauses
pub mod Noting
pub mod Texts
