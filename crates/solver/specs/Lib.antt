-- What the contracts of `solver` cite. Assumes nothing.
pub mod Solved
