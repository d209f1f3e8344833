pub mod Answers
pub mod More
