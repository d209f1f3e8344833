pub mod Lines
pub mod Literals
pub mod Parts
pub mod Spans
pub mod Forms
pub mod Binary
pub mod Answers
