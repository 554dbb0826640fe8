pub mod Numbers
pub mod Lists
pub mod Pairs
pub mod DeskRecords
pub mod Rows
pub mod Examples
