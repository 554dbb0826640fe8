pub mod Place
pub mod Expected
pub mod Refusals
pub mod Results
