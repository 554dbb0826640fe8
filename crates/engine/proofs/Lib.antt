pub mod Literals
pub mod Performed
pub mod Profiles
pub mod Checker
pub mod Searching
pub mod Nowhere
