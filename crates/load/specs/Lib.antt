pub mod Answers
pub mod Preview
pub mod Steps
