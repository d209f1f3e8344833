-- What the contracts of `search_from_command` cite. Assumes nothing.
pub mod Texts
