pub mod Walks
pub mod Meaning
pub mod Telling
pub mod Promises
pub mod RestartCases
