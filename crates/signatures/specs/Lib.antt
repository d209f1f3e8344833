-- What the contracts over signatures cite. Assumes nothing.
pub mod Answers
pub mod Words
pub mod Bucket
pub mod Store
pub mod Twin
