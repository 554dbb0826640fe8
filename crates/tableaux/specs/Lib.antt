pub mod Leaves
pub mod Entering
pub mod Ready
