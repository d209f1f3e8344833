-- What the contracts of `quantification` cite. Assumes nothing.
pub mod Quantification
