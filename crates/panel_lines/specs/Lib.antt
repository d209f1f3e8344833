-- What the contracts of `panel_lines` cite. Assumes nothing.
pub mod Grammar
pub mod Reading
