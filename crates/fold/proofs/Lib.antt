pub mod Parts
pub mod Lines
pub mod Folding
pub mod Answers
pub mod Examples
