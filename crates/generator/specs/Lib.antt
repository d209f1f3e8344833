-- What the contracts of `generator` cite. Assumes nothing.
pub mod Draws
