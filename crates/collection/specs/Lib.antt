-- What the contracts of `collection` cite. Assumes nothing.
pub mod Collecting
pub mod Zeros
pub mod Meaning
