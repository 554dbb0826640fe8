pub mod Named
pub mod Finding
pub mod Witnesses
