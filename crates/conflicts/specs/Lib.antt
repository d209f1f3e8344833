-- What the contracts of `conflicts` cite. Assumes nothing.
pub mod Conflicts
