pub mod Season
pub mod Promises
pub mod SeasonCases
pub mod Asking
