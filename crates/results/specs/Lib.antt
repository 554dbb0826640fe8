pub mod Buffers
pub mod Results
