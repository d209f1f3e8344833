-- What the contracts of `analysis` cite. Assumes nothing.
pub mod Analysis
