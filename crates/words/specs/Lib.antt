pub mod Fields
pub mod Steps
pub mod Fingerprint
pub mod Bytes
