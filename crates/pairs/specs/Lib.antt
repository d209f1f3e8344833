-- What the contracts of `pairs` cite. Assumes nothing.
pub mod Bucket
pub mod Answers
pub mod Store
