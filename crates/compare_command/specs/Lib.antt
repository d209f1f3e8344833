-- What the contracts of `compare_command` cite. Assumes nothing.
pub mod Texts
