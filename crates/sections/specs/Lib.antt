pub mod Sections
pub mod Spans
