-- What the contracts of `staged` cite. Assumes nothing.
pub mod Schedule
pub mod Answers
