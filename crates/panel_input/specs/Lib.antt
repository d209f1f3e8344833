-- What the contracts of `panel_input` cite. Assumes nothing.
pub mod Line
