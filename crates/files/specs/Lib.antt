-- What the contracts of `files` cite. Assumes nothing.
pub mod Reading
