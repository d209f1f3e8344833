pub mod Rows
pub mod Sections
pub mod RoundTrip
pub mod Answers
