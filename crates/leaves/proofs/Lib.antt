pub mod Leaves
pub mod Showing
pub mod Binding
mod Examples
