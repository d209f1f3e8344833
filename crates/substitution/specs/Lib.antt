-- What the contracts of `substitution` cite. Assumes nothing.
pub mod Substitution
