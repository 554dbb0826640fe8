pub mod Bound
pub mod Held
pub mod BoundCases
