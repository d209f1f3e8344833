pub mod Sections
pub mod Parts
pub mod Answers
pub mod RoundTrip
