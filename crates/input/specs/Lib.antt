-- What the contracts of `input` cite. Assumes nothing.
pub mod Reading
pub mod Contents
