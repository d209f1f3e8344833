-- What the contracts of `watches` cite. Assumes nothing.
pub mod Watch
