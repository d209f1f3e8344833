-- What the contracts of `panel_names` cite. Assumes nothing.
pub mod Naming
