-- What the contracts of `panel_fetching` cite. Assumes nothing.
pub mod Fetching
