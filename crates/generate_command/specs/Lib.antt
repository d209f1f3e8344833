-- What the contracts of `generate_command` cite. Assumes nothing.
pub mod Texts
