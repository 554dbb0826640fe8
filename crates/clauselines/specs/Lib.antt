pub mod Lines
pub mod Call
pub mod Writers
