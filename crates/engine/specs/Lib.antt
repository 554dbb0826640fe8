pub mod Performing
pub mod Ended
pub mod Checking
pub mod Searching
pub mod Nowhere
