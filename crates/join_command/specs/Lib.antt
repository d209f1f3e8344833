-- What the contracts of `join_command` cite. Assumes nothing.
pub mod Texts
