pub mod Bounds
pub mod AtTheDoor
pub mod Trials
pub mod Demands
pub mod Cases
