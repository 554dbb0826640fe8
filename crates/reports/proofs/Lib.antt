pub mod Cutting
pub mod Counting
pub mod Lining
pub mod Saying
pub mod Examples
