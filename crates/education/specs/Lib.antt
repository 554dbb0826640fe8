pub mod Education
pub mod Promises
pub mod EducationCases
