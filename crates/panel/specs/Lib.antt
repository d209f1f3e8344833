-- What the contracts of `panel` cite. Assumes nothing.
pub mod Answers
