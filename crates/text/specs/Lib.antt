pub mod Quoted
pub mod Put
pub mod Digits
