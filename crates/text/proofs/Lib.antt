pub mod Parts
pub mod Putting
pub mod Written
pub mod Fitting
pub mod Examples
