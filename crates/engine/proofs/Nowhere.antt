-- Tries of which nothing can come: that nothing comes of them, and how they are seen.
pub mod Tries
pub mod Seen
