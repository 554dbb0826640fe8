pub mod Saying
mod Examples
