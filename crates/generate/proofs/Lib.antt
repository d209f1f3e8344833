-- The laws of `generate`. Assumes nothing.
pub mod Lines
pub mod Whole
pub mod Answers
