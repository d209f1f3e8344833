-- What the contracts of `panel_serving` cite. Assumes nothing.
pub mod Serving
pub mod Telling
