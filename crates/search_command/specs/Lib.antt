-- What the contracts of `search_command` cite. Assumes nothing.
pub mod Texts
