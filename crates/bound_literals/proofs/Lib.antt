pub mod Filling
pub mod Seeking
pub mod Slots
pub mod Replaying
pub mod Calling
pub mod Cases
