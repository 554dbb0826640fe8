pub mod Refusing
pub mod Looking
pub mod Results
pub mod Telling
pub mod Asking
pub mod Promises
pub mod Cases
