-- What the contracts of `kept` cite. Assumes nothing.
pub mod Kept
