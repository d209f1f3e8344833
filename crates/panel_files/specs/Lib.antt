-- What the contracts of `panel_files` cite. Assumes nothing.
pub mod Files
