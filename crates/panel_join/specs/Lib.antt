-- What the contracts of `panel_join` cite. Assumes nothing.
pub mod Joins
