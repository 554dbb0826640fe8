pub mod Smallest
pub mod SmallestDemands
pub mod SmallestCases
pub mod Trying
