-- What the contracts of `settling` cite. Assumes nothing.
pub mod Settling
