pub mod Leaves
pub mod Shown
pub mod Bound
