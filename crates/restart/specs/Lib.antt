pub mod Conclusions
pub mod Walking
pub mod Restart
pub mod Promises
pub mod RestartCases
