pub mod Numbers
pub mod Noting
pub mod Known
pub mod Tree
pub mod Marks
