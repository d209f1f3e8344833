-- What the contracts of `conjunction` cite. Assumes nothing.
pub mod Conjunction
